use Rattle.std.proofs.Common.{◌≡◌, take, map}
use Rattle.lvm_volume_plan.proofs.CopiesLemmas.Rows.{other}
use Rattle.lvm_volume_plan.proofs.with_copies.with_copies.Given as goal

abbrev pub invariant-loop-row : goal.invariant-loop-row
invariant-loop-row l = l.lvs.items ≡ map (other l.lv l.copies l.map) (take l.row-index l.row-items)
