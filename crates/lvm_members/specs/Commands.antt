-- Why a group doesn't change its rule of votes or its size, and what a change of it answers.
use Rattle.std.specs.Prelude.{◌≡◌, ◌⊎◌, ℕ, true, false, ⊤, MatchBool, Bool, [], Result, Ok, Err}
use Rattle.lvm_num.specs.declared.descriptor.Descriptor.{Descriptor}
use Rattle.lvm_num.specs.Votes.{total_votes}
use Rattle.lvm_core.specs.declared.fault.CommitFault.{CommitFault}
use Rattle.lvm_core.specs.declared.fault.CommitFault.TheVariants as commit
use Rattle.lvm_core.specs.passed.SessionOpenPower as power
use Rattle.lvm_core.specs.Committing.{HasStated}
use Rattle.lvm_session.specs.State.{Core, State, is_there, votes_there}
use Rattle.lvm_change.specs.Rule.{IsRefused, as_big}
use Rattle.lvm_change_laws.specs.Rule.{MayChangeRule}
use Rattle.lvm_turnover.specs.Changing.{ChangeEnds}
use Rattle.lvm_turnover.specs.Turning.{IsReady}
use Rattle.lvm_volume_plan.specs.Faults.{TakesCommands, HasSpareRoom}
use Rattle.lvm_volume_plan.specs.PlannedVolume.{AreOfOneGroup}
use Rattle.lvm_members.specs.declared.fault.RuleFault.{RuleFault}
use Rattle.lvm_members.specs.declared.fault.RuleFault.TheVariants as fault
use Rattle.lvm_members.specs.declared.plan.Plan.{Plan}
use Rattle.lvm_members.specs.declared.plan.Plan.TheVariants as plan

-- ---- faults

-- it is one of the writing of records
abbrev pub IsOfRecords : CommitFault → Type 0
IsOfRecords (commit.DiskFailed disk) = ⊥
IsOfRecords _ = Unit {0}

-- so the command has this one
abbrev pub IsFaultOf : CommitFault → RuleFault → Type 0
IsFaultOf commit.Dark why = why ≡ fault.Dark
IsFaultOf (commit.WentOff have total) why = why ≡ fault.WentOff have total
IsFaultOf commit.Stuck why = why ≡ fault.Stuck
IsFaultOf (commit.DiskFailed disk) why = ⊥

-- ---- before the first write

-- Nothing stands against the change to this descriptor.
pub record MayBeChanged (next : Descriptor) (core : Core) : Type 0 where
  pub takes : TakesCommands core
  pub rule : MayChangeRule core.descriptor next (is_there core)
  pub room : HasSpareRoom core

-- why it isn't made, each cause exactly where it holds and those before it don't; want of memory, which is free, only where the session takes a command
abbrev pub RefusesChange : Descriptor → Core → RuleFault → Type 0
RefusesChange next core fault.Dark = core.power ≡ power.Dark
RefusesChange next core (fault.WentOff have total) = (core.power ≡ power.Off) × (have ≡ votes_there core) × (total ≡ total_votes core.descriptor)
RefusesChange next core fault.Busy = (core.power ≡ power.On) × (core.requests ≡ [] → ⊥)
RefusesChange next core (fault.NoQuorum have total) = TakesCommands core × IsRefused core.descriptor next (is_there core) (record { have = have; total = total })
RefusesChange next core fault.HistoryFull = TakesCommands core × MayChangeRule core.descriptor next (is_there core) × (HasSpareRoom core → ⊥)
RefusesChange next core fault.Memory = TakesCommands core
RefusesChange next core fault.Stuck = ⊥

-- nothing has happened, for this cause
abbrev pub IsRefusedFor : Descriptor → RuleFault → State → State → Type 0
IsRefusedFor next why old new = (new ≡ old) × RefusesChange next old.core why

-- a turn to it, or where nothing differs the descriptor itself once more
abbrev pub IsPlanFor : Descriptor → Core → Plan → Type 0
IsPlanFor next core (plan.Turn change) = AreOfOneGroup core × MayBeChanged next core × (change.next ≡ next) × IsReady change
IsPlanFor next core (plan.Same prepared) = AreOfOneGroup core × MayBeChanged next core × (prepared ≡ next) × (next ≡ core.descriptor)

-- ---- what is answered

-- the answer of the command by that of its records
abbrev pub IsAnswerOf : Result (Unit {0}) CommitFault → Result (Unit {0}) RuleFault → Type 0
IsAnswerOf (Ok done) answer = answer ≡ Ok tt
IsAnswerOf (Err why) answer = (of : RuleFault) × IsFaultOf why of × (answer ≡ Err of)

-- it broke off so, and nothing stood against it
abbrev pub BreaksOff : Descriptor → ℕ → State → State → CommitFault → Type 0
BreaksOff next patience old new why = MayBeChanged next old.core × ChangeEnds next patience old new (Err why)

-- that the descriptor is committed, or why it isn't
abbrev pub RuleGives : Descriptor → ℕ → State → State → Result (Unit {0}) RuleFault → Type 0
RuleGives next patience old new (Ok done) = MayBeChanged next old.core × HasStated next old new
RuleGives next patience old new (Err fault.Dark) = IsRefusedFor next fault.Dark old new ⊎ BreaksOff next patience old new commit.Dark
RuleGives next patience old new (Err (fault.WentOff have total)) = IsRefusedFor next (fault.WentOff have total) old new ⊎ BreaksOff next patience old new (commit.WentOff have total)
RuleGives next patience old new (Err fault.Stuck) = BreaksOff next patience old new commit.Stuck
RuleGives next patience old new (Err fault.Busy) = IsRefusedFor next fault.Busy old new
RuleGives next patience old new (Err (fault.NoQuorum have total)) = IsRefusedFor next (fault.NoQuorum have total) old new
RuleGives next patience old new (Err fault.HistoryFull) = IsRefusedFor next fault.HistoryFull old new
RuleGives next patience old new (Err fault.Memory) = IsRefusedFor next fault.Memory old new

-- nothing is written, or it is refused
abbrev pub NothingGives : State → State → Result (Unit {0}) RuleFault → Type 0
NothingGives old new (Ok done) = (new ≡ old) × TakesCommands old.core × HasSpareRoom old.core
NothingGives old new (Err why) = IsRefusedFor old.core.descriptor why old new

-- a group that is big stays as it is, and each other becomes big
abbrev pub BigGives : ℕ → State → State → Result (Unit {0}) RuleFault → Type 0
BigGives patience old new answer = MatchBool old.core.descriptor.big (NothingGives old new answer) (RuleGives (as_big old.core.descriptor) patience old new answer)

-- ---- while the session goes on

-- a power cut, the loss of the votes, and a transfer of which nothing is heard end the session
abbrev pub ends_session : RuleFault → Bool
ends_session fault.Dark = true
ends_session (fault.WentOff have total) = true
ends_session fault.Stuck = true
ends_session _ = false

-- whether the session is over after a command that was answered so
abbrev pub is_over : Result (Unit {0}) RuleFault → Bool
is_over (Ok done) = false
is_over (Err why) = ends_session why

-- where it isn't, this holds
abbrev pub IfOn : Result (Unit {0}) RuleFault → Type 0 → Type 0
IfOn answer P = MatchBool (is_over answer) ⊤ P
