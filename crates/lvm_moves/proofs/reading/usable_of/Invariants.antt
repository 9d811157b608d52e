use Rattle.std.proofs.Common.{◌≡◌, take}
use Rattle.lvm_session.specs.Fields.{core_of}
use Rattle.lvm_session.specs.Events.{usable_from}
use Rattle.lvm_moves.proofs.reading.usable_of.Given as goal

abbrev pub invariant-loop-k : goal.invariant-loop-k
invariant-loop-k l = l.numbers.items ≡ usable_from (core_of l.session) 1 (take l.k l.copies)
