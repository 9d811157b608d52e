use Rattle.std.proofs.Common.{◌≡◌, take}
use Rattle.lvm_group.specs.NewGroup.{most_sectors}
use Rattle.lvm_group.proofs.checks.most_sectors.Given as goal

abbrev pub invariant-loop-disk : goal.invariant-loop-disk
invariant-loop-disk g l = l.most ≡ most_sectors (g.S.Shelf.device l.shelf).sizes (take l.disk-index l.disks)
