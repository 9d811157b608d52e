-- A group of which members come to be spares, or to be none any more.
use Rattle.std.specs.Prelude.{◌≡◌}
use Rattle.lvm_num.specs.declared.descriptor.Descriptor.{Descriptor}
use Rattle.lvm_num.specs.Descriptor.{IsValid}
use Rattle.lvm_num.specs.Disks.{Disks}
use Rattle.lvm_num.specs.Votes.{CanWrite}
use Rattle.lvm_change_laws.specs.Rule.{MayChange, no_member, unspared}

-- the two differ in which members are spares alone
pub record DiffersInSpares (group next : Descriptor) : Type 0 where
  pub alone : next ≡ record group { pvs = next.pvs }
  pub members : unspared next.pvs ≡ unspared group.pvs

-- Its spares may change so: both descriptors are valid, and the members that aren't missing have votes enough to write.
pub record MayChangeSpares (group next : Descriptor) (there : Disks) : Type 0 where
  pub valid : IsValid group
  pub valid_next : IsValid next
  pub differs : DiffersInSpares group next
  pub enough : CanWrite group there

-- So a group may change: no member leaves, and spares vote as others do.
abbrev pub SparesAreChange : Type 0
SparesAreChange = (group next : Descriptor) (there : Disks) → MayChangeSpares group next there → MayChange no_member group next there
