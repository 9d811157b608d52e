-- The members of a group that show it.
use Rattle.lvm_num.specs.declared.descriptor.Descriptor.{Descriptor}
use Rattle.lvm_num.specs.Disks.{Disks}
use Rattle.lvm_num.specs.Votes.{all_disks}
use Rattle.lvm_kept.specs.Contents.{Contents}
use Rattle.lvm_kept.specs.Group.{members_in}

-- the members by the descriptor that show a descriptor of the group and have the sectors that their partitions need
abbrev pub members_showing : Contents → Descriptor → Disks
members_showing c group = members_in c all_disks group.id group
