use Rattle.std.proofs.Common.{◌-◌, ◌≡◌, ◌+◌, ◌*◌, ◌++◌, ◌≤◌, Ok, length, min, IfSome}
use Rattle.lvm_disk.specs.passed.Num.{joined}
use Rattle.lvm_transfer.specs.Reading.{ReadsEnd, ReadSoFar}
use Rattle.lvm_transfer.proofs.reading.append_sectors.Given as goal

abbrev pub invariant-loop-done : goal.invariant-loop-done
invariant-loop-done g l = record {
  reads : ReadsEnd l.extent.disk l.fn.buf.number l.fn.patience.left l.patience.left (g.S.Shelf.device l.fn.shelf) (g.S.Shelf.device l.shelf) (Ok l.back);
  whole : ReadSoFar l.extent.disk l.extent.first l.extent.count (g.S.Shelf.device l.fn.shelf) l.done (g.S.Shelf.device l.shelf);
  within : l.done ≤ l.extent.count;
  size : length l.bytes.items ≡ length l.fn.bytes.items + 512 * min l.done l.extent.keep;
  bytes : IfSome (g.S.Shelf.device l.fn.shelf).media (λ media. l.bytes.items ≡ l.fn.bytes.items ++ joined (media l.extent.disk) l.extent.first (min l.done l.extent.keep));
}

abbrev pub decreases-loop-done : goal.decreases-loop-done
decreases-loop-done g l = l.extent.count - l.done
