use Rattle.lvm_num.specs.Disks.{has}
use Rattle.lvm_quorum.specs.passed.Transfer.{IsOfNote}
use Rattle.lvm_write.specs.Notes.{empty_note_sector, NoteTold}
use Rattle.lvm_write.proofs.WritesLemmas.{TriedDisks}
use Rattle.lvm_write.proofs.notes.empty_notes.Given as goal

abbrev pub invariant-loop-disk : goal.invariant-loop-disk
invariant-loop-disk g l =
    TriedDisks (has l.targets) (IsOfNote (has l.targets) (empty_note_sector l.stamp)) (NoteTold (empty_note_sector l.stamp)) l.fn.buf.number l.fn.patience.left l.patience.left (g.S.Shelf.device l.fn.shelf) (g.S.Shelf.device l.shelf)
    l.failed l.buf l.disk
