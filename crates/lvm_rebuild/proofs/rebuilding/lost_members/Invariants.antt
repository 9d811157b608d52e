use Rattle.std.proofs.Common.{◌≡◌, map, take}
use Rattle.std.specs.Prelude.{filter}
use Rattle.lvm_num.specs.declared.descriptor.PvRow.{PvRow}
use Rattle.lvm_session.specs.Judging.{is_missing}
use Rattle.lvm_rebuild.proofs.rebuilding.lost_members.Given as goal

abbrev pub invariant-loop-row : goal.invariant-loop-row
invariant-loop-row g l = l.lost.items ≡ map (λ (row : PvRow). row.disk) (filter (λ (row : PvRow). is_missing l.driver.1 row.disk) (take l.row-index l.row-items))
