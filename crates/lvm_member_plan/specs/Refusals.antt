-- Why members don't leave a group, before the first write.
use Rattle.std.specs.Prelude.{◌≡◌, ◌≢◌, ℕ, ◌≤◌, ◌<◌, true, false, List, [], length, Option, Some, None, IsTrue, IsFalse}
use Rattle.lvm_num.specs.declared.descriptor.Descriptor.{Descriptor}
use Rattle.lvm_num.specs.Votes.{votes_in, total_votes, is_enough_to_write, CanWrite}
use Rattle.lvm_vol.specs.Log.{spare_entries}
use Rattle.lvm_core.specs.passed.SessionOpenPower as power
use Rattle.lvm_session.specs.State.{Core, is_there, votes_there}
use Rattle.lvm_volume_plan.specs.Faults.{TakesCommands, numbers_left}
use Rattle.lvm_member_plan.specs.Descriptors.{reduced, first_stranger, first_used, are_all_named}
use Rattle.lvm_member_plan.specs.declared.fault.ReduceFault.{ReduceFault}
use Rattle.lvm_member_plan.specs.declared.fault.ReduceFault.TheVariants as fault

-- The disks are members, not all of them, and no volume has a partition on one.
pub record AreFree (d : Descriptor) (disks : List ℕ) : Type 0 where
  pub members : first_stranger d disks ≡ None
  pub some_stay : are_all_named d disks ≡ false
  pub unused : first_used d disks ≡ None

-- the members that aren't missing have votes enough to write by the last descriptor
abbrev pub HasVotes : List ℕ → Core → Type 0
HasVotes disks core = CanWrite (reduced disks core.descriptor) (is_there core)

-- an entry for each disk and 65,536 sequence numbers are left
pub record HasRoom (disks : List ℕ) (core : Core) : Type 0 where
  pub entries : length disks ≤ spare_entries core.history
  pub numbers : 65536 ≤ numbers_left core

-- Nothing stands against it; so fewer leave than there are.
pub record MayReduce (disks : List ℕ) (core : Core) : Type 0 where
  pub takes : TakesCommands core
  pub free : AreFree core.descriptor disks
  pub few : length disks < length core.descriptor.pvs
  pub votes : HasVotes disks core
  pub room : HasRoom disks core

-- which disks stand against it, each cause exactly where it holds and those before it don't
abbrev pub RefusesMembers : Descriptor → List ℕ → ReduceFault → Type 0
RefusesMembers d disks (fault.NoDisk disk) = first_stranger d disks ≡ Some disk
RefusesMembers d disks fault.LastDisk = (first_stranger d disks ≡ None) × (are_all_named d disks ≡ true)
RefusesMembers d disks (fault.DiskInUse disk) = (first_stranger d disks ≡ None) × (are_all_named d disks ≡ false) × (first_used d disks ≡ Some disk)
RefusesMembers d disks _ = ⊥

-- the votes by the last descriptor are too few, or memory is wanting
abbrev pub RefusesVotes : List ℕ → Core → ReduceFault → Type 0
RefusesVotes disks core (fault.NoQuorum have total) =
    (have ≡ votes_in (reduced disks core.descriptor) (is_there core)) × (total ≡ total_votes (reduced disks core.descriptor)) × IsFalse (is_enough_to_write (reduced disks core.descriptor) have)
RefusesVotes disks core fault.Memory = Unit {0}
RefusesVotes disks core _ = ⊥

-- why it isn't done, each cause exactly where it holds and those before it don't; want of memory, which is free, only where the session takes a command
abbrev pub RefusesReduce : List ℕ → Core → ReduceFault → Type 0
RefusesReduce disks core fault.Dark = core.power ≡ power.Dark
RefusesReduce disks core (fault.WentOff have total) = (core.power ≡ power.Off) × (have ≡ votes_there core) × (total ≡ total_votes core.descriptor)
RefusesReduce disks core fault.Busy = (core.power ≡ power.On) × (core.requests ≡ [] → ⊥)
RefusesReduce disks core (fault.NoDisk disk) = TakesCommands core × RefusesMembers core.descriptor disks (fault.NoDisk disk)
RefusesReduce disks core fault.LastDisk = TakesCommands core × RefusesMembers core.descriptor disks fault.LastDisk
RefusesReduce disks core (fault.DiskInUse disk) = TakesCommands core × RefusesMembers core.descriptor disks (fault.DiskInUse disk)
RefusesReduce disks core (fault.NoQuorum have total) = TakesCommands core × AreFree core.descriptor disks × RefusesVotes disks core (fault.NoQuorum have total)
RefusesReduce disks core fault.HistoryFull = TakesCommands core × AreFree core.descriptor disks × HasVotes disks core × (HasRoom disks core → ⊥)
RefusesReduce disks core fault.Memory = TakesCommands core
RefusesReduce disks core fault.Stuck = ⊥
