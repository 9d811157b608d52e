use Rattle.std.proofs.Common.{ℕ, ◌<◌}
use Rattle.lvm_write.specs.Written.{HasRoom}
use Rattle.lvm_tests_groups.proofs.tests.disks.has_room.Given as goal

abbrev pub invariant-loop-disk : goal.invariant-loop-disk
invariant-loop-disk g l = (d : ℕ) → d < l.disk → HasRoom (g.S.Shelf.device l.shelf) d
