use Rattle.std.specs.List.{range_with_len}
use Rattle.std.proofs.Common.{◌*◌}
use Rattle.lvm_num.specs.Disks.{has}
use Rattle.lvm_recovery.specs.Plan.{copies_at}
use Rattle.lvm_recovery.proofs.JoiningLemmas.{PartsMade}
use Rattle.lvm_recovery.proofs.dirty.copy_volume.Given as goal

abbrev pub invariant-loop-g : goal.invariant-loop-g
invariant-loop-g g l = record { so_far : PartsMade (copies_at l.mib l.table (has l.disks) l.row) (range_with_len 0 (8 * l.mib * l.row.lps)) l.fn.buf.number l.fn.patience.left l.patience.left (g.S.Shelf.device l.fn.shelf) (g.S.Shelf.device l.shelf) l.buf l.g }
