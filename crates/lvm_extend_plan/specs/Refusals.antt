-- Why members don't join a group, before any disk is read.
use Rattle.std.specs.Prelude.{◌≡◌, ℕ, ◌+◌, ◌<◌, ◌≤◌, List, [], length, Some, None}
use Rattle.lvm_num.specs.declared.descriptor.Descriptor.{Descriptor}
use Rattle.lvm_num.specs.Descriptor.{most_members}
use Rattle.lvm_num.specs.Votes.{total_votes}
use Rattle.lvm_vol.specs.Log.{spare_entries}
use Rattle.lvm_core.specs.passed.SessionOpenPower as power
use Rattle.lvm_session.specs.State.{Core, State, votes_there}
use Rattle.lvm_group.specs.NewGroup.{first_absent, first_too_small}
use Rattle.lvm_volume_plan.specs.Faults.{TakesCommands, numbers_left}
use Rattle.lvm_extend_plan.specs.declared.fault.ExtendFault.{ExtendFault}
use Rattle.lvm_extend_plan.specs.declared.fault.ExtendFault.TheVariants as fault
use Rattle.lvm_extend_plan.specs.Descriptors.{first_member}

-- The disks are there, in no member's place, as many as the group may have, and each has room for a partition.
pub record AreJoining (sizes : List ℕ) (d : Descriptor) (disks : List ℕ) : Type 0 where
  pub there : first_absent sizes disks ≡ None
  pub strangers : first_member d disks ≡ None
  pub few : length d.pvs + length disks ≤ most_members d.big
  pub fit : first_too_small sizes d.mib disks ≡ None

-- an entry for each disk and 65,536 sequence numbers are left
pub record HasRoomFor (disks : List ℕ) (core : Core) : Type 0 where
  pub entries : length disks ≤ spare_entries core.history
  pub numbers : 65536 ≤ numbers_left core

-- Nothing stands against it but what may stand on the disks.
pub record MayRead (disks : List ℕ) (s : State) : Type 0 where
  pub takes : TakesCommands s.core
  pub joining : AreJoining s.device.sizes s.core.descriptor disks
  pub room : HasRoomFor disks s.core

-- which disks stand against it, each cause exactly where it holds and those before it don't
abbrev pub RefusesDisks : List ℕ → Descriptor → List ℕ → ExtendFault → Type 0
RefusesDisks sizes d disks (fault.NoDisk disk) = first_absent sizes disks ≡ Some disk
RefusesDisks sizes d disks (fault.InGroup disk) = (first_absent sizes disks ≡ None) × (first_member d disks ≡ Some disk)
RefusesDisks sizes d disks (fault.TooMany limit) =
    (first_absent sizes disks ≡ None) × (first_member d disks ≡ None) × (limit ≡ most_members d.big) × (limit < length d.pvs + length disks)
RefusesDisks sizes d disks (fault.TooSmall disk) =
    (first_absent sizes disks ≡ None) × (first_member d disks ≡ None) × (length d.pvs + length disks ≤ most_members d.big) × (first_too_small sizes d.mib disks ≡ Some disk)
RefusesDisks sizes d disks _ = ⊥

-- why it isn't begun, each cause exactly where it holds and those before it don't
abbrev pub RefusesFirst : List ℕ → State → ExtendFault → Type 0
RefusesFirst disks s fault.Dark = s.core.power ≡ power.Dark
RefusesFirst disks s (fault.WentOff have total) = (s.core.power ≡ power.Off) × (have ≡ votes_there s.core) × (total ≡ total_votes s.core.descriptor)
RefusesFirst disks s fault.Busy = (s.core.power ≡ power.On) × (s.core.requests ≡ [] → ⊥)
RefusesFirst disks s (fault.NoDisk disk) = TakesCommands s.core × RefusesDisks s.device.sizes s.core.descriptor disks (fault.NoDisk disk)
RefusesFirst disks s (fault.InGroup disk) = TakesCommands s.core × RefusesDisks s.device.sizes s.core.descriptor disks (fault.InGroup disk)
RefusesFirst disks s (fault.TooMany limit) = TakesCommands s.core × RefusesDisks s.device.sizes s.core.descriptor disks (fault.TooMany limit)
RefusesFirst disks s (fault.TooSmall disk) = TakesCommands s.core × RefusesDisks s.device.sizes s.core.descriptor disks (fault.TooSmall disk)
RefusesFirst disks s fault.HistoryFull = TakesCommands s.core × AreJoining s.device.sizes s.core.descriptor disks × (HasRoomFor disks s.core → ⊥)
RefusesFirst disks s _ = ⊥
