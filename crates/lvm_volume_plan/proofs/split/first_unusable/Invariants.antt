use Rattle.std.proofs.Common.{ℕ, ◌<◌, drop}
use Rattle.std.specs.Prelude.{IsFalse}
use Rattle.lvm_num.specs.Descriptor.{copies_of}
use Rattle.lvm_volume_plan.specs.Split.{has_unusable}
use Rattle.lvm_volume_plan.proofs.split.first_unusable.Given as goal

abbrev pub invariant-loop-lp : goal.invariant-loop-lp
invariant-loop-lp l = (n : ℕ) → n < l.lp → IsFalse (has_unusable l.table (drop l.copies (copies_of l.row n)))
