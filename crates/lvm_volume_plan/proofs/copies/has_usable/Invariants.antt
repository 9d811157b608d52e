use Rattle.std.proofs.Common.{◌≡◌, drop}
use Rattle.lvm_volume_plan.specs.CopiesFaults.{has_usable}
use Rattle.lvm_volume_plan.proofs.copies.has_usable.Given as goal

abbrev pub invariant-loop-pp : goal.invariant-loop-pp
invariant-loop-pp l = has_usable l.table (drop l.pp-index l.copies) ≡ has_usable l.table l.copies
