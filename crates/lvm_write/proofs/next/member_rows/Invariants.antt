use Rattle.std.proofs.Common.{◌≡◌, length}
use Rattle.lvm_num.specs.Descriptor.{is_member}
use Rattle.lvm_num.specs.Disks.{has}
use Rattle.lvm_write.specs.Rows.{AreMemberRows}
use Rattle.lvm_write.proofs.Counting.{count_below}
use Rattle.lvm_write.proofs.next.member_rows.Given as goal

abbrev pub invariant-loop-disk : goal.invariant-loop-disk
invariant-loop-disk l = record {
  rows : AreMemberRows l.group (has l.answering) l.was l.disk l.rows.items;
  count : length l.rows.items ≡ count_below (is_member l.group) l.disk;
}
