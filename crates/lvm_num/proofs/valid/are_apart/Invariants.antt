use Rattle.std.proofs.Common.{◌≢◌, take}
use Rattle.std.specs.Prelude.{AllPairs}
use Rattle.lvm_num.specs.declared.place.Pp.{Pp}
use Rattle.lvm_num.proofs.valid.are_apart.Given as goal

abbrev pub invariant-loop-k : goal.invariant-loop-k
invariant-loop-k l = AllPairs (λ (a b : Pp). a.disk ≢ b.disk) (take l.k l.copies)
