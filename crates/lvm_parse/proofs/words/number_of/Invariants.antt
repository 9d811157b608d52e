use Rattle.std.proofs.Common.{◌≡◌, ◌<◌, ◌^◌, drop, take, true}
use Rattle.std.specs.List.{list_all}
use Rattle.lvm_parse.specs.Words.{decimal_from, is_digit}
use Rattle.lvm_parse.proofs.words.number_of.Given as goal

abbrev pub invariant-loop-byte : goal.invariant-loop-byte
invariant-loop-byte l = (decimal_from l.number (drop l.byte-index l.word) ≡ decimal_from 0 l.word) × (list_all is_digit (take l.byte-index l.word) ≡ true) × (l.number < 2 ^ 64)
