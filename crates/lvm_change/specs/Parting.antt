-- Members that a record didn't reach.
use Rattle.lvm_num.specs.declared.descriptor.Descriptor.{Descriptor}
use Rattle.lvm_num.specs.Disks.{Disks}
use Rattle.lvm_status.specs.Update.{Stored}
use Rattle.lvm_commit.specs.Rounds.{HasLost, HasMarked}

-- They are wanted missing, and the copies of the group's volumes that they leave behind stale.
pub record PartsWith (group : Descriptor) (lost : Disks) (first last : Stored) : Type 0 where
  pub mid : Stored
  pub loses : HasLost lost first mid
  pub marks : HasMarked group lost mid last
