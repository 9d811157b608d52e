use Rattle.std.proofs.Common.{◌≡◌, [], ◌+◌, drop, take}
use Rattle.lvm_parse.specs.Line.{words_from}
use Rattle.lvm_parse.proofs.scan.split_word.Given as goal

abbrev pub invariant-loop-i : goal.invariant-loop-i
invariant-loop-i l = words_from (l.rest.column + l.i) (take l.i l.rest.bytes.now) (drop l.i l.rest.bytes.now) ≡ words_from l.rest.column [] l.rest.bytes.now
