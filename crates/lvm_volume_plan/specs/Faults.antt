-- Why a volume isn't made or removed, and whether the session goes on.
use Rattle.std.specs.Prelude.{◌≡◌, ℕ, ◌-◌, ◌^◌, ◌<◌, ◌≤◌, Bool, true, false, ⊤, MatchBool, List, [], length, None, IsSome, Result, Ok, Err}
use Rattle.lvm_num.specs.declared.place.Pp.{Pp}
use Rattle.lvm_num.specs.Descriptor.{volume_of, most_volumes}
use Rattle.lvm_num.specs.Votes.{total_votes}
use Rattle.lvm_vol.specs.Log.{spare_entries}
use Rattle.lvm_map.specs.FirstFit.{IsAllocated, HasNoPlace, free_count, new_volume}
use Rattle.lvm_core.specs.declared.fault.CommitFault.{CommitFault}
use Rattle.lvm_core.specs.declared.fault.CommitFault.TheVariants as commit
use Rattle.lvm_core.specs.passed.SessionOpenPower as power
use Rattle.lvm_core.specs.passed.Session.{Core, State, is_there, votes_there}
use Rattle.lvm_core.specs.Looking.{IsNumberOf, HasNoVolumeNamed}
use Rattle.lvm_volume_plan.specs.declared.fault.GroupFault.{GroupFault}
use Rattle.lvm_volume_plan.specs.declared.fault.GroupFault.TheVariants as fault
use Rattle.lvm_volume_plan.specs.declared.new_volume.NewVolume.{NewVolume}

-- the fault of a command whose commit or zeros had this one
abbrev pub fault_of : CommitFault → GroupFault
fault_of commit.Dark = fault.Dark
fault_of (commit.WentOff have total) = fault.WentOff have total
fault_of (commit.DiskFailed disk) = fault.DiskFailed disk
fault_of commit.Stuck = fault.Stuck

-- so what it answers is an answer of the command
abbrev pub command_answer : {A : Type 0} → Result A CommitFault → Result A GroupFault
command_answer (Ok done) = Ok done
command_answer (Err why) = Err (fault_of why)

-- ---- what is left of the session

-- a power cut, the loss of the votes, and a transfer of which nothing is heard end the session
abbrev pub ends_session : GroupFault → Bool
ends_session fault.Dark = true
ends_session (fault.WentOff have total) = true
ends_session fault.Stuck = true
ends_session _ = false

-- whether the session is over after a command that was answered so
abbrev pub is_over : {A : Type 0} → Result A GroupFault → Bool
is_over (Ok done) = false
is_over (Err why) = ends_session why

-- where it isn't, this holds
abbrev pub IfOn : {A : Type 0} → Result A GroupFault → Type 0 → Type 0
IfOn answer P = MatchBool (is_over answer) ⊤ P

-- ---- before a command

-- the session is on, and no request is open
pub record TakesCommands (core : Core) : Type 0 where
  pub on : core.power ≡ power.On
  pub requests : core.requests ≡ []

-- ---- what is refused before the first write

-- how many sequence numbers are left for the stamps of the session's records
abbrev pub numbers_left : Core → ℕ
numbers_left core = 2 ^ 32 - 1 - core.status.stamp.seq

-- two entries and 65,536 sequence numbers are left
pub record HasSpareRoom (core : Core) : Type 0 where
  pub entries : 2 ≤ spare_entries core.history
  pub numbers : 65536 ≤ numbers_left core

-- The session takes a command, and the group has no volume of the name;
pub record HasNewName (v : NewVolume) (core : Core) : Type 0 where
  pub takes : TakesCommands core
  pub new : HasNoVolumeNamed core.descriptor.lvs v.name

-- a volume may have so many copies
abbrev pub MayHaveCopies : ℕ → Type 0
MayHaveCopies copies = (1 ≤ copies) × (copies ≤ 3)

-- one to three copies are asked for;
pub record HasCopies (v : NewVolume) (core : Core) : Type 0 where
  pub named : HasNewName v core
  pub copies : MayHaveCopies v.copies

-- the group may have a volume more;
pub record HasNumber (v : NewVolume) (core : Core) : Type 0 where
  pub counted : HasCopies v core
  pub fewer : length core.descriptor.lvs < most_volumes core.descriptor.big

-- first fit finds these places on the members that aren't missing;
pub record HasPlaces (v : NewVolume) (core : Core) (map : List Pp) : Type 0 where
  pub numbered : HasNumber v core
  pub placed : IsAllocated core.descriptor (is_there core) (new_volume v.lps v.copies) map

-- and there is room for it in the history and among the numbers.
pub record MayBeMade (v : NewVolume) (core : Core) (map : List Pp) : Type 0 where
  pub places : HasPlaces v core map
  pub room : HasSpareRoom core

-- why a session takes no command
abbrev pub RefusesAll : Core → GroupFault → Type 0
RefusesAll core fault.Dark = core.power ≡ power.Dark
RefusesAll core (fault.WentOff have total) = (core.power ≡ power.Off) × (have ≡ votes_there core) × (total ≡ total_votes core.descriptor)
RefusesAll core fault.Busy = (core.power ≡ power.On) × (core.requests ≡ [] → ⊥)
RefusesAll core _ = ⊥

-- why no volume is made, each cause exactly where it holds and those before it don't; want of memory, which is free, only where none holds that comes before places are looked for
abbrev pub RefusesMklv : NewVolume → Core → GroupFault → Type 0
RefusesMklv v core fault.VolumeExists = TakesCommands core × ((number : ℕ) × IsNumberOf core.descriptor.lvs v.name number)
RefusesMklv v core (fault.CopyLimit now) = HasNewName v core × (MayHaveCopies v.copies → ⊥) × (now ≡ 0)
RefusesMklv v core (fault.TooMany limit) = HasCopies v core × (limit ≡ most_volumes core.descriptor.big) × (limit ≤ length core.descriptor.lvs)
RefusesMklv v core (fault.NoRoom free) = HasNumber v core × HasNoPlace core.descriptor (is_there core) (new_volume v.lps v.copies) × (free ≡ free_count core.descriptor (is_there core))
RefusesMklv v core fault.HistoryFull = ((map : List Pp) × HasPlaces v core map) × (HasSpareRoom core → ⊥)
RefusesMklv v core fault.Memory = HasNumber v core
RefusesMklv v core fault.Dark = RefusesAll core fault.Dark
RefusesMklv v core (fault.WentOff have total) = RefusesAll core (fault.WentOff have total)
RefusesMklv v core fault.Busy = RefusesAll core fault.Busy
RefusesMklv v core _ = ⊥

-- nothing stands against a removal
pub record MayBeRemoved (lv : ℕ) (core : Core) : Type 0 where
  pub takes : TakesCommands core
  pub there : IsSome (volume_of core.descriptor lv)
  pub room : HasSpareRoom core

-- why none is removed; want of memory, which is free, only where nothing else stands against it
abbrev pub RefusesRmlv : ℕ → Core → GroupFault → Type 0
RefusesRmlv lv core fault.NoVolume = TakesCommands core × (volume_of core.descriptor lv ≡ None)
RefusesRmlv lv core fault.HistoryFull = TakesCommands core × IsSome (volume_of core.descriptor lv) × (HasSpareRoom core → ⊥)
RefusesRmlv lv core fault.Memory = MayBeRemoved lv core
RefusesRmlv lv core fault.Dark = RefusesAll core fault.Dark
RefusesRmlv lv core (fault.WentOff have total) = RefusesAll core (fault.WentOff have total)
RefusesRmlv lv core fault.Busy = RefusesAll core fault.Busy
RefusesRmlv lv core _ = ⊥

-- nothing has happened, for this cause
abbrev pub RefusesFor : (Core → GroupFault → Type 0) → GroupFault → State → State → Type 0
RefusesFor Refuses why old new = (new ≡ old) × Refuses old.core why
