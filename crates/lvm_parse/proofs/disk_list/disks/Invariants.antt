use Rattle.std.proofs.Common.{◌≡◌, [], length}
use Rattle.lvm_parse.specs.Reading.{disks}
use Rattle.lvm_parse.specs.Rests.{left}
use Rattle.lvm_parse.proofs.disk_list.disks.Given as goal

abbrev pub invariant-disks : goal.invariant-disks
invariant-disks l = disks l.found.items (left l.rest) ≡ disks [] (left l.fn.rest)

abbrev pub decreases-disks : goal.decreases-disks
decreases-disks l = length l.rest.bytes.now
