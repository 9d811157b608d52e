-- How a group comes to stand: by the votes of the disks that show its descriptor.
use Rattle.std.specs.Prelude.{◌≡◌, ℕ, Some}
use Rattle.lvm_num.specs.declared.descriptor.Descriptor.{Descriptor}
use Rattle.lvm_num.specs.Disks.{Disks}
use Rattle.lvm_num.specs.Record.{Stamped}
use Rattle.lvm_num.specs.Votes.{CanWrite}
use Rattle.lvm_kept.specs.Contents.{Contents}
use Rattle.lvm_kept.specs.Group.{Finds}
use Rattle.lvm_kept.specs.Committed.{SameVotes, DescriptorStands, IsWithinDisks}

-- Disks with votes enough to write show this descriptor, no disk shows a later one of the group, and each of the group counts the same votes.
pub record IsCommitted (c : Contents) (now : Stamped Descriptor) : Type 0 where
  pub set : Disks
  pub enough : CanWrite now.value set
  pub stands : DescriptorStands c now.value.id set now now
  pub votes : (d : ℕ) (r : Stamped Descriptor) → c.descriptor d ≡ Some r → r.value.id ≡ now.value.id → SameVotes r.value now.value

-- Then whichever disks find the group find it by this descriptor.
abbrev pub CommittedIsFound : Type 0
CommittedIsFound = (c : Contents) (now : Stamped Descriptor) → IsWithinDisks c → IsCommitted c now → (disks : Disks) (g : Descriptor) → Finds c disks now.value.id g → g ≡ now.value
