use Rattle.std.proofs.Common.{◌≡◌, ◌+◌, ◌*◌, take, count_by}
use Rattle.std.specs.Prelude.{not}
use Rattle.lvm_num.specs.declared.descriptor.PvRow.{PvRow}
use Rattle.lvm_num.specs.Status.{calls_missing}
use Rattle.lvm_volumes.proofs.tidying.has_spare_numbers.Given as goal

abbrev pub invariant-loop-row : goal.invariant-loop-row
invariant-loop-row g l = l.needed ≡ 8 + 2 * count_by (λ (row : PvRow). not (calls_missing l.driver.1.status.committed row.disk)) (take l.row-index l.driver.1.descriptor.pvs)
