use Rattle.std.proofs.Common.{ℕ, ◌<◌}
use Rattle.std.specs.Prelude.{IsFalse}
use Rattle.lvm_volume_plan.specs.CopiesFaults.{is_loss}
use Rattle.lvm_volume_plan.proofs.copies.first_loss.Given as goal

abbrev pub invariant-loop-lp : goal.invariant-loop-lp
invariant-loop-lp l = (n : ℕ) → n < l.lp → IsFalse (is_loss l.table l.row l.copies n)
