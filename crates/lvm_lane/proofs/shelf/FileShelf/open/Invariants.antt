use Rattle.std.proofs.Common.{◌≡◌, length}
use Rattle.lvm_lane.proofs.shelf.FileShelf.open.Given as goal

abbrev pub invariant-loop-disk : goal.invariant-loop-disk
invariant-loop-disk g l = length l.disks.items ≡ l.disk
