use Rattle.std.proofs.Common.{ℕ, ◌<◌}
use Rattle.std.specs.Prelude.{IsTrue}
use Rattle.lvm_num.specs.Descriptor.{copies_of}
use Rattle.lvm_volume_plan.specs.CopiesFaults.{has_usable}
use Rattle.lvm_volumes.proofs.tidying.lacks_usable.Given as goal

abbrev pub invariant-loop-lp : goal.invariant-loop-lp
invariant-loop-lp l = (n : ℕ) → n < l.lp → IsTrue (has_usable l.table (copies_of l.row n))
