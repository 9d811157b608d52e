use Rattle.std.proofs.Common.{◌≡◌, drop}
use Rattle.lvm_volume_plan.specs.Split.{has_unusable}
use Rattle.lvm_volume_plan.proofs.split.has_unusable.Given as goal

abbrev pub invariant-loop-pp : goal.invariant-loop-pp
invariant-loop-pp l = has_unusable l.table (drop l.pp-index l.copies) ≡ has_unusable l.table l.copies
