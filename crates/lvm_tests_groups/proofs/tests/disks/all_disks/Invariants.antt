use Rattle.std.proofs.Common.{ℕ, ◌<◌, IsTrue}
use Rattle.lvm_num.specs.Disks.{has}
use Rattle.lvm_tests_groups.proofs.tests.disks.all_disks.Given as goal

abbrev pub invariant-loop-disk : goal.invariant-loop-disk
invariant-loop-disk l = (d : ℕ) → IsTrue (has l.disks d) → d < l.disk
