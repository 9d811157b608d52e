use Rattle.std.proofs.Common.{◌≢◌, ◌<◌, ℕ}
use Rattle.std.specs.Prelude.{AllPairs}
use Rattle.lvm_num.specs.declared.place.Pp.{Pp}
use Rattle.lvm_num.specs.Descriptor.{copies_of}
use Rattle.lvm_num.proofs.valid.is_laid_out.Given as goal

abbrev pub invariant-loop-lp : goal.invariant-loop-lp
invariant-loop-lp l = (lp : ℕ) → lp < l.lp → AllPairs (λ (a b : Pp). a.disk ≢ b.disk) (copies_of l.row lp)
