use Rattle.std.proofs.Common.{◌≡◌, ℕ, ◌<◌, false, get_or}
use Rattle.lvm_num.specs.declared.descriptor.PvRow.{PvRow}
use Rattle.lvm_num.specs.Status.{calls_missing}
use Rattle.lvm_session.specs.Placed.{IsPlaced}
use Rattle.lvm_core.proofs.look.are_placed.Given as goal

abbrev pub invariant-loop-row : goal.invariant-loop-row
invariant-loop-row g l = (k : ℕ) (row : PvRow) → k < l.row-index → get_or l.members k row ≡ row → calls_missing l.table row.disk ≡ false → IsPlaced (g.S.Shelf.device l.shelf).sizes l.mib row
