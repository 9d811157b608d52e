use Rattle.std.proofs.Common.{◌≡◌, drop}
use Rattle.lvm_volume_plan.specs.CopiesFaults.{has_fresh}
use Rattle.lvm_volume_plan.proofs.copies.has_fresh.Given as goal

abbrev pub invariant-loop-pp : goal.invariant-loop-pp
invariant-loop-pp l = has_fresh l.table (drop l.pp-index l.copies) ≡ has_fresh l.table l.copies
