use Rattle.std.proofs.Common.{◌-◌, ◌≤◌}
use Rattle.lvm_write.specs.Parts.{write_to}
use Rattle.lvm_write.proofs.PartsLemmas.Transfers.{WroteBelow}
use Rattle.lvm_write.proofs.write.write_slot.Given as goal

abbrev pub invariant-loop-first : goal.invariant-loop-first
invariant-loop-first g l = record {
  wrote : WroteBelow (write_to l.one) l.one.disk l.fn.buf.number l.fn.patience.left l.patience.left (g.S.Shelf.device l.fn.shelf) (g.S.Shelf.device l.shelf) l.buf l.first;
  within : l.first ≤ l.sectors;
}

abbrev pub decreases-loop-first : goal.decreases-loop-first
decreases-loop-first g l = l.sectors - l.first
