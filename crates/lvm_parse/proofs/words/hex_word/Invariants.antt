use Rattle.std.proofs.Common.{◌≡◌, drop, take, true}
use Rattle.std.specs.List.{list_all}
use Rattle.lvm_parse.specs.Words.{hex_from, is_hex_digit}
use Rattle.lvm_parse.proofs.words.hex_word.Given as goal

abbrev pub invariant-loop-byte : goal.invariant-loop-byte
invariant-loop-byte l = (hex_from l.value (drop l.byte-index l.word) ≡ hex_from 0 l.word) × (list_all is_hex_digit (take l.byte-index l.word) ≡ true)
