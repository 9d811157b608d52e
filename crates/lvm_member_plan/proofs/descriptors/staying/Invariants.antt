use Rattle.std.proofs.Common.{◌≡◌, take}
use Rattle.lvm_core.specs.Committing.{is_in}
use Rattle.lvm_change_laws.specs.Rule.{staying}
use Rattle.lvm_member_plan.proofs.descriptors.staying.Given as goal

abbrev pub invariant-loop-row : goal.invariant-loop-row
invariant-loop-row l = l.pvs.items ≡ staying (is_in l.disks) (take l.row-index l.rows)
