use Rattle.std.proofs.Common.{below_more}
use Rattle.lvm_write.specs.Written.{HasRoom}
use Rattle.lvm_tests_groups.proofs.tests.disks.has_room.Goals as goal

pub loop-disk-preserved : goal.loop-disk-preserved
loop-disk-preserved g c = below_more (HasRoom (g.S.Shelf.device c.args.shelf.now)) c.loop-disk.disk c.loop-disk.invariant (c.sectors.result, c.sectors.ensures, c.if-sectors-lt4096.false)
