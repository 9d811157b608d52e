-- A copy is passed: it is judged, and brought up where it is stale.
use Rattle.std.specs.Prelude.{◌≡◌, ◌<◌, ◌⊎◌, ℕ, true, false, Some, None, IfSome, Result, Ok, Err}
use Rattle.lvm_num.specs.declared.descriptor.LvRow.{LvRow}
use Rattle.lvm_num.specs.declared.place.Pp.{Pp}
use Rattle.lvm_num.specs.Descriptor.{volume_of}
use Rattle.lvm_session.specs.declared.answers.CopyFault.{CopyFault}
use Rattle.lvm_session.specs.declared.answers.CopyFault.TheVariants as refusal
use Rattle.lvm_session.specs.declared.answers.CopyState.{CopyState}
use Rattle.lvm_session.specs.declared.answers.CopyState.TheVariants as copy
use Rattle.lvm_session.specs.declared.answers.Turned.TheVariants as turned
use Rattle.lvm_session.specs.declared.bringing.OpenCopy.{OpenCopy}
use Rattle.lvm_session.specs.declared.open.Power.TheVariants as power
use Rattle.lvm_session.specs.Calls.{Opens, closed, copy_at, copy_fault, copy_state, has_numbers}
use Rattle.lvm_session.specs.Judging.{copies_in, is_stale}
use Rattle.lvm_session.specs.State.{Core, State, state}
use Rattle.lvm_ranges.specs.passed.Calls.{counts_seen}
use Rattle.lvm_ranges.specs.passed.KeepsEvents.{is_marked}
use Rattle.lvm_ranges.specs.passed.Driver.{IsCopyCaused, LastTurn, TurnsWhile}
use Rattle.lvm_ranges.specs.declared.fault.SyncFault.{SyncFault}
use Rattle.lvm_ranges.specs.declared.fault.SyncFault.TheVariants as fault
use Rattle.lvm_ranges.specs.declared.copies.Opening.{Opening}
use Rattle.lvm_ranges.specs.declared.copies.Opening.TheVariants as opening
use Rattle.lvm_ranges.specs.declared.copies.Passed.{Passed}
use Rattle.lvm_ranges.specs.declared.copies.Passed.TheVariants as passed
use Rattle.lvm_ranges.specs.Turning.{IsOverFor, StopsFor}

-- a copy, from 1, of a logical partition, from 0, of a volume, on this physical partition
pub record Copy : Type 0 where
  pub lv : ℕ
  pub lp : ℕ
  pub number : ℕ
  pub pp : Pp

-- a session of which no copy is open, and of whose copies this is one
pub record MayPass (core : Core) (c : Copy) : Type 0 where
  pub none : core.copy ≡ None
  pub within : (row : LvRow) → volume_of core.descriptor c.lv ≡ Some row → c.lp < row.lps
  pub its : copy_at (copies_in core.descriptor c.lv c.lp) c.number ≡ Some c.pp

abbrev pub copy_of : ℕ → ℕ → ℕ → Pp → Copy
copy_of lv lp number pp = record { lv = lv; lp = lp; number = number; pp = pp }

-- turns by so much patience, each made while this is so, and the patience that is left
abbrev pub EachTurnWhile : (Core → Type 0) → ℕ → ℕ → State → State → Type 0
EachTurnWhile Is patience left old new = TurnsWhile (λ (s : State). Is s.core) patience old left new

-- behind which the session is over, before them or by a last turn that answers so; or the patience is at its end while this is so
abbrev pub EndsTurning : (Core → Type 0) → ℕ → ℕ → State → State → SyncFault → Type 0
EndsTurning Is patience left old new fault.Dark = EachTurnWhile Is patience left old new ⊎ LastTurn (λ (s : State). Is s.core) patience left old new turned.Dark
EndsTurning Is patience left old new fault.Off = EachTurnWhile Is patience left old new ⊎ LastTurn (λ (s : State). Is s.core) patience left old new turned.Off
EndsTurning Is patience left old new other = EachTurnWhile Is patience left old new × Is new.core

-- ---- it is judged

-- the committed status calls it stale, and the one in flight fresh
pub record IsUnsettled (c : Copy) (core : Core) : Type 0 where
  pub stale : is_stale core c.pp ≡ true
  pub fresh : copy_fault core c.lv c.lp c.number ≡ Some refusal.AlreadyFresh

-- it is fresh, once it is settled
pub record WasFresh (c : Copy) (patience left : ℕ) (old new : State) : Type 0 where
  pub settles : EachTurnWhile (IsUnsettled c) patience left old new
  pub fresh : is_stale new.core c.pp ≡ false

-- it is stale, and isn't opened for this
pub record IsNotOpened (c : Copy) (patience left : ℕ) (old new : State) (why : CopyFault) : Type 0 where
  pub settles : EachTurnWhile (IsUnsettled c) patience left old new
  pub stale : is_stale new.core c.pp ≡ true
  pub why_is : copy_fault new.core c.lv c.lp c.number ≡ Some why

-- it is stale, and opened
pub record IsOpened (c : Copy) (patience left : ℕ) (old new : State) : Type 0 where
  pub judged : State
  pub settles : EachTurnWhile (IsUnsettled c) patience left old judged
  pub stale : is_stale judged.core c.pp ≡ true
  pub may : copy_fault judged.core c.lv c.lp c.number ≡ None
  pub its : copy_at (copies_in judged.core.descriptor c.lv c.lp) c.number ≡ Some c.pp
  pub opens : Opens (counts_seen judged.device judged.core) judged.core new.core c.lv c.lp c.number
  pub device : new.device ≡ judged.device

-- what is answered where it isn't opened: why it stays stale
abbrev pub RefusedFor : Copy → ℕ → ℕ → State → State → SyncFault → Type 0
RefusedFor c patience left old new (fault.NoFresh lp) = (lp ≡ c.lp) × IsNotOpened c patience left old new refusal.NoFresh
RefusedFor c patience left old new (fault.Missing disk) = IsNotOpened c patience left old new (refusal.Missing disk)
RefusedFor c patience left old new _ = ⊥

-- what became of it, and whether it is open
abbrev pub IsJudged : Copy → ℕ → ℕ → State → State → Opening → Type 0
IsJudged c patience left old new opening.Fresh = WasFresh c patience left old new × (new.core.copy ≡ None)
IsJudged c patience left old new opening.Opened = IsOpened c patience left old new
IsJudged c patience left old new (opening.Refused why) = RefusedFor c patience left old new why × (new.core.copy ≡ None)

-- ---- it is brought up

-- a copy is open, and runs
abbrev pub Runs : Core → Type 0
Runs core = (cursor : ℕ) × (copy_state core ≡ copy.Running cursor)

-- one is open that hasn't ended, and doesn't move
abbrev pub IsJustOpened : Core → Type 0
IsJustOpened core = (c : OpenCopy) × (core.copy ≡ Some c) × (c.end ≡ None) × (c.moves ≡ false)

-- it is the same one, opened when the disks had failed as often
abbrev pub IsSameCopy : OpenCopy → OpenCopy → Type 0
IsSameCopy old new = (new.pp ≡ old.pp) × (new.lv ≡ old.lv) × (new.lp ≡ old.lp) × (new.copy ≡ old.copy) × (new.faults ≡ old.faults) × (new.moves ≡ old.moves)

-- It is brought up until it has ended so, for its cause, and closed; where it is done nothing calls it stale any more.
pub record HasEndedFor (patience left : ℕ) (old new : State) (how : CopyState) : Type 0 where
  pub ended : State
  pub turns : EachTurnWhile Runs patience left old ended
  pub how_is : copy_state ended.core ≡ how
  pub same : IfSome old.core.copy (λ (c : OpenCopy). IfSome ended.core.copy (IsSameCopy c))
  pub caused : IsCopyCaused ended
  pub is : new ≡ state ended.device (closed ended.core)
  pub fresh : how ≡ copy.Done → IfSome old.core.copy (λ (c : OpenCopy). is_marked new.core c.pp ≡ false)

-- a stale copy is opened, brought up, and ends so
pub record IsBroughtUp (c : Copy) (patience left : ℕ) (old new : State) (how : CopyState) : Type 0 where
  pub opened : State
  pub before : ℕ
  pub opens : IsOpened c patience before old opened
  pub ends : HasEndedFor before left opened new how

-- it was stale, is brought up until it is done, and nothing calls it stale any more
pub record IsMadeFresh (c : Copy) (patience left : ℕ) (old new : State) : Type 0 where
  pub brings : IsBroughtUp c patience left old new copy.Done
  pub fresh : is_marked new.core c.pp ≡ false

-- how a copy ends while its session goes on
abbrev pub CopyHasEnded : CopyState → Type 0
CopyHasEnded copy.Done = Unit {0}
CopyHasEnded (copy.SyncFailed disk) = Unit {0}
CopyHasEnded copy.NoFresh = Unit {0}
CopyHasEnded _ = ⊥

-- ---- how it is passed

-- what is answered where it ended otherwise than as done
abbrev pub FailedFor : Copy → ℕ → ℕ → State → State → SyncFault → Type 0
FailedFor c patience left old new (fault.SyncFailed disk) = IsBroughtUp c patience left old new (copy.SyncFailed disk)
FailedFor c patience left old new (fault.NoFresh lp) = (lp ≡ c.lp) × IsBroughtUp c patience left old new copy.NoFresh
FailedFor c patience left old new _ = ⊥

-- It is fresh already; it was stale, and is made fresh; or it stays stale.
abbrev pub PassesCopy : Copy → ℕ → ℕ → State → State → Passed → Type 0
PassesCopy c patience left old new passed.Fresh = WasFresh c patience left old new
PassesCopy c patience left old new passed.Made = IsMadeFresh c patience left old new
PassesCopy c patience left old new (passed.Failed why) = RefusedFor c patience left old new why ⊎ FailedFor c patience left old new why

-- ---- how its calls end

-- it is opened, and turns are made while it runs
pub record IsBroken (c : Copy) (patience left : ℕ) (old new : State) (why : SyncFault) : Type 0 where
  pub opened : State
  pub before : ℕ
  pub opens : IsOpened c patience before old opened
  pub turns : EndsTurning Runs before left opened new why

-- What becomes of a copy at which the resync ends at once: where numbers are short it is stale, and isn't opened for that; else turns were made while it
-- wasn't settled, or while it ran.
abbrev pub BreaksOff : Copy → ℕ → ℕ → State → State → SyncFault → Type 0
BreaksOff c patience left old new fault.HistoryFull = IsNotOpened c patience left old new refusal.HistoryFull
BreaksOff c patience left old new why = EndsTurning (IsUnsettled c) patience left old new why ⊎ IsBroken c patience left old new why

-- the resync ends at once at this copy
abbrev pub EndsAtCopy : Copy → ℕ → ℕ → State → State → SyncFault → Type 0
EndsAtCopy c patience left old new why = StopsFor left new.core why × BreaksOff c patience left old new why

-- so it does while the copy that is open runs
abbrev pub StopsRunning : ℕ → ℕ → State → State → SyncFault → Type 0
StopsRunning patience left old new why = IsOverFor left new.core why × EndsTurning Runs patience left old new why

-- as the one says; or the resync ends at once, as the other does
abbrev pub EndsOr : {A : Type 0} → (A → Type 0) → (SyncFault → Type 0) → Result A SyncFault → Type 0
EndsOr Is Stops (Ok it) = Is it
EndsOr Is Stops (Err why) = Stops why

-- it is judged
abbrev pub JudgesCopy : Copy → ℕ → ℕ → State → State → Result Opening SyncFault → Type 0
JudgesCopy c patience left old new = EndsOr (IsJudged c patience left old new) (EndsAtCopy c patience left old new)

-- the one that is open is brought up
abbrev pub BringsUp : ℕ → ℕ → State → State → Result CopyState SyncFault → Type 0
BringsUp patience left old new = EndsOr (HasEndedFor patience left old new) (StopsRunning patience left old new)

-- it is passed, and none is left open
abbrev pub IsPassed : Copy → ℕ → ℕ → State → State → Passed → Type 0
IsPassed c patience left old new how = PassesCopy c patience left old new how × (new.core.copy ≡ None)

abbrev pub PassesOrEnds : Copy → ℕ → ℕ → State → State → Result Passed SyncFault → Type 0
PassesOrEnds c patience left old new = EndsOr (IsPassed c patience left old new) (EndsAtCopy c patience left old new)

-- what it is passed as, by how it ended
abbrev pub IsPassedBy : ℕ → CopyState → Passed → Type 0
IsPassedBy lp copy.Done how = how ≡ passed.Made
IsPassedBy lp (copy.SyncFailed disk) how = how ≡ passed.Failed (fault.SyncFailed disk)
IsPassedBy lp copy.NoFresh how = how ≡ passed.Failed (fault.NoFresh lp)
IsPassedBy lp _ how = ⊥

-- what is answered by why it isn't opened
abbrev pub IsAnsweredBy : ℕ → CopyFault → Result Opening SyncFault → Type 0
IsAnsweredBy lp refusal.Dark answer = answer ≡ Err fault.Dark
IsAnsweredBy lp refusal.Off answer = answer ≡ Err fault.Off
IsAnsweredBy lp refusal.HistoryFull answer = answer ≡ Err fault.HistoryFull
IsAnsweredBy lp (refusal.Missing disk) answer = answer ≡ Ok (opening.Refused (fault.Missing disk))
IsAnsweredBy lp refusal.NoFresh answer = answer ≡ Ok (opening.Refused (fault.NoFresh lp))
IsAnsweredBy lp _ answer = ⊥

-- it may be answered, by the session: no copy is open, and it is one of its copies, which isn't settled fresh
abbrev pub MayRefuse : Core → CopyFault → Type 0
MayRefuse core refusal.Dark = core.power ≡ power.Dark
MayRefuse core refusal.Off = core.power ≡ power.Off
MayRefuse core refusal.HistoryFull = has_numbers core ≡ false
MayRefuse core (refusal.Missing disk) = Unit {0}
MayRefuse core refusal.NoFresh = Unit {0}
MayRefuse core _ = ⊥
