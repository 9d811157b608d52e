use Rattle.lvm_num.specs.Disks.{has}
use Rattle.lvm_recovery.specs.Plan.{copies_if_dirty}
use Rattle.lvm_recovery.proofs.JoiningLemmas.{PartsMade}
use Rattle.lvm_recovery.proofs.dirty.copy_rows.Given as goal

abbrev pub invariant-loop-row : goal.invariant-loop-row
invariant-loop-row g l = record { so_far : PartsMade (copies_if_dirty l.mib l.table (has l.disks)) l.rows l.fn.buf.number l.fn.patience.left l.patience.left (g.S.Shelf.device l.fn.shelf) (g.S.Shelf.device l.shelf) l.buf l.row-index }
