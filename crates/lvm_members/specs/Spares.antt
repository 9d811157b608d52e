-- Why a member of a group doesn't come to be a spare, or none, and what a change of it answers.
use Rattle.std.specs.Prelude.{◌≡◌, ◌⊎◌, ℕ, true, false, ⊤, MatchBool, Bool, [], Result, Ok, Err, IsTrue, IsFalse}
use Rattle.lvm_num.specs.declared.descriptor.Descriptor.{Descriptor}
use Rattle.lvm_num.specs.Descriptor.{IsValid}
use Rattle.lvm_num.specs.Votes.{total_votes}
use Rattle.lvm_core.specs.declared.fault.CommitFault.{CommitFault}
use Rattle.lvm_core.specs.declared.fault.CommitFault.TheVariants as commit
use Rattle.lvm_core.specs.passed.SessionOpenPower as power
use Rattle.lvm_core.specs.Committing.{HasStated}
use Rattle.lvm_session.specs.State.{Core, State, votes_there}
use Rattle.lvm_change.specs.Spare.{with_spare}
use Rattle.lvm_change_laws.specs.Spares.{DiffersInSpares}
use Rattle.lvm_member_plan.specs.Descriptors.{is_used}
use Rattle.lvm_turnover.specs.declared.change.Change.{Change}
use Rattle.lvm_turnover.specs.Changing.{ChangeEnds}
use Rattle.lvm_turnover.specs.Turning.{IsReady}
use Rattle.lvm_volume_plan.specs.Faults.{TakesCommands, HasSpareRoom}
use Rattle.lvm_volume_plan.specs.PlannedVolume.{AreOfOneGroup}
use Rattle.lvm_members.specs.declared.spare.SpareFault.{SpareFault}
use Rattle.lvm_members.specs.declared.spare.SpareFault.TheVariants as fault

-- ---- before the first write

-- The session takes a command, and no volume has a partition on the disk where it is to be a spare;
pub record MayBeSpare (disk : ℕ) (on : Bool) (core : Core) : Type 0 where
  pub takes : TakesCommands core
  pub unused : IsTrue on → IsFalse (is_used core.descriptor disk)

-- and there is room for the records: nothing stands against it.
pub record MayBeMarked (disk : ℕ) (on : Bool) (core : Core) : Type 0 where
  pub may : MayBeSpare disk on core
  pub room : HasSpareRoom core

-- why a session takes no command
abbrev pub RefusesAll : Core → SpareFault → Type 0
RefusesAll core fault.Dark = core.power ≡ power.Dark
RefusesAll core (fault.WentOff have total) = (core.power ≡ power.Off) × (have ≡ votes_there core) × (total ≡ total_votes core.descriptor)
RefusesAll core fault.Busy = (core.power ≡ power.On) × (core.requests ≡ [] → ⊥)
RefusesAll core _ = ⊥

-- why it isn't made one, or none, each cause exactly where it holds and those before it don't; want of memory, which is free, only where nothing else stands against it
abbrev pub RefusesSpare : ℕ → Bool → Core → SpareFault → Type 0
RefusesSpare disk on core (fault.DiskInUse used) = TakesCommands core × (used ≡ disk) × IsTrue on × IsTrue (is_used core.descriptor disk)
RefusesSpare disk on core fault.HistoryFull = MayBeSpare disk on core × (HasSpareRoom core → ⊥)
RefusesSpare disk on core fault.Memory = MayBeMarked disk on core
RefusesSpare disk on core why = RefusesAll core why

-- nothing has happened, for this cause
abbrev pub IsRefusedSpare : ℕ → Bool → SpareFault → State → State → Type 0
IsRefusedSpare disk on why old new = (new ≡ old) × RefusesSpare disk on old.core why

-- the group may turn to this descriptor, by which other members are spares
pub record IsMarkedAs (next : Descriptor) (core : Core) : Type 0 where
  pub group : AreOfOneGroup core
  pub room : HasSpareRoom core
  pub valid : IsValid next
  pub differs : DiffersInSpares core.descriptor next

-- the turn to the descriptor in which it is one, or none, is ready
pub record IsSparePlan (disk : ℕ) (on : Bool) (core : Core) (change : Change) : Type 0 where
  pub may : MayBeMarked disk on core
  pub next : change.next ≡ with_spare disk on core.descriptor
  pub marked : IsMarkedAs change.next core
  pub ready : IsReady change

-- ---- what is answered

-- the answer of the command by that of its records, which are of no disk's zeros
abbrev pub spare_fault_is : CommitFault → SpareFault
spare_fault_is commit.Dark = fault.Dark
spare_fault_is (commit.WentOff have total) = fault.WentOff have total
spare_fault_is commit.Stuck = fault.Stuck
spare_fault_is (commit.DiskFailed disk) = fault.Stuck

abbrev pub IsSpareAnswer : Result (Unit {0}) CommitFault → Result (Unit {0}) SpareFault → Type 0
IsSpareAnswer (Ok done) answer = answer ≡ Ok tt
IsSpareAnswer (Err why) answer = answer ≡ Err (spare_fault_is why)

-- the descriptor is committed, or its records broke off
abbrev pub SpareEnds : Descriptor → ℕ → State → State → Result (Unit {0}) SpareFault → Type 0
SpareEnds next patience old new (Ok done) = HasStated next old new
SpareEnds next patience old new (Err fault.Dark) = ChangeEnds next patience old new (Err commit.Dark)
SpareEnds next patience old new (Err (fault.WentOff have total)) = ChangeEnds next patience old new (Err (commit.WentOff have total))
SpareEnds next patience old new (Err fault.Stuck) = ChangeEnds next patience old new (Err commit.Stuck)
SpareEnds next patience old new (Err _) = ⊥

-- so it ends, where nothing stood against it
abbrev pub IsMarkedTo : ℕ → Bool → ℕ → State → State → Result (Unit {0}) SpareFault → Type 0
IsMarkedTo disk on patience old new answer = MayBeMarked disk on old.core × SpareEnds (with_spare disk on old.core.descriptor) patience old new answer

-- that it is one, or none, or why it isn't
abbrev pub SpareGives : ℕ → Bool → ℕ → State → State → Result (Unit {0}) SpareFault → Type 0
SpareGives disk on patience old new (Ok done) = IsMarkedTo disk on patience old new (Ok done)
SpareGives disk on patience old new (Err why) = IsRefusedSpare disk on why old new ⊎ IsMarkedTo disk on patience old new (Err why)

-- ---- while the session goes on

-- a power cut, the loss of the votes, and a transfer of which nothing is heard end the session
abbrev pub is_over_by : Result (Unit {0}) SpareFault → Bool
is_over_by (Err fault.Dark) = true
is_over_by (Err (fault.WentOff have total)) = true
is_over_by (Err fault.Stuck) = true
is_over_by _ = false

-- where it isn't over, this holds
abbrev pub IfMarkedOn : Result (Unit {0}) SpareFault → Type 0 → Type 0
IfMarkedOn answer P = MatchBool (is_over_by answer) ⊤ P
