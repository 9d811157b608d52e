use Rattle.lvm_num.specs.Disks.{has}
use Rattle.lvm_recovery.specs.Dirty.{copy_to}
use Rattle.lvm_recovery.proofs.JoiningLemmas.{PartsMade}
use Rattle.lvm_recovery.proofs.dirty.copy_rest.Given as goal

abbrev pub invariant-loop-pp : goal.invariant-loop-pp
invariant-loop-pp g l = record { so_far : PartsMade (copy_to l.mib l.block l.table (has l.disks) l.from) l.pps l.fn.buf.number l.fn.patience.left l.patience.left (g.S.Shelf.device l.fn.shelf) (g.S.Shelf.device l.shelf) l.buf l.pp-index }
