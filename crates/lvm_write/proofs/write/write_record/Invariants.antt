use Rattle.lvm_num.specs.Disks.{has}
use Rattle.lvm_write.specs.Written.{write_of}
use Rattle.lvm_write.proofs.WrittenLemmas.Disks.{WroteDisks}
use Rattle.lvm_write.proofs.write.write_record.Given as goal

abbrev pub invariant-loop-disk : goal.invariant-loop-disk
invariant-loop-disk g l =
    WroteDisks (write_of l.kind (record { stamp = l.stamp; content = l.content }) (has l.targets) l.fn.homes) l.fn.buf.number l.fn.patience.left l.patience.left (g.S.Shelf.device l.fn.shelf) (g.S.Shelf.device l.shelf)
    l.fn.homes l.homes l.failed l.buf l.disk
