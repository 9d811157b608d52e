-- One copy moves: it is opened, turns are made until nothing is to be made, and it is committed where it is done.
use Rattle.std.specs.Prelude.{◌≡◌, ◌≢◌, ◌⊎◌, ℕ, true, Option, None, Some, Result, Ok, Err, IfErr}
use Rattle.lvm_disk.specs.Paths.{Path}
use Rattle.lvm_num.specs.Votes.{total_votes}
use Rattle.lvm_session.specs.declared.answers.CopyState.{CopyState}
use Rattle.lvm_session.specs.declared.answers.CopyState.TheVariants as copy
use Rattle.lvm_session.specs.declared.answers.OpenFault.{OpenFault}
use Rattle.lvm_session.specs.declared.answers.OpenFault.TheVariants as denial
use Rattle.lvm_session.specs.Calls.{OpenMoveGives, closed, copy_state, move_fault}
use Rattle.lvm_session.specs.State.{Core, State, state, votes_there}
use Rattle.lvm_core.specs.declared.fault.CommitFault.{CommitFault}
use Rattle.lvm_core.specs.declared.fault.CommitFault.TheVariants as commit
use Rattle.lvm_going.specs.Going.{CommitsOpenMove}
use Rattle.lvm_keeps_events.specs.passed.Calls.{counts_seen}
use Rattle.lvm_driver.specs.Answers.{IsCopyCaused}
use Rattle.lvm_driver.specs.Drains.{DrainCosts, DrainEnds, IsAny, IsDrained, IsTurn}
use Rattle.lvm_session.specs.Judging.{is_moving}
use Rattle.lvm_migrate.specs.Faults.{IsAgainst, IsOfOpening, commit_fault_is, opening_fault_is}
use Rattle.lvm_move_plan.specs.declared.plan.PlannedMove.{PlannedMove}
use Rattle.lvm_migrate.specs.declared.fault.MoveFault.{MoveFault}
use Rattle.lvm_migrate.specs.declared.fault.MoveFault.TheVariants as fault

-- why it doesn't begin to move, but for want of memory
abbrev pub fault_of_move : Core → PlannedMove → Option OpenFault
fault_of_move core m = move_fault core m.copy.lv m.copy.lp m.copy.number m.to

-- it is opened, and turns are made by so much patience until they end so
pub record TurnsEnd (m : PlannedMove) (patience left : ℕ) (old new : State) (how : Result (Unit {0}) CommitFault) : Type 0 where
  pub opened : State
  pub fine : fault_of_move old.core m ≡ None
  pub opens : OpenMoveGives (counts_seen old.device old.core) old.core opened.core m.copy.lv m.copy.lp m.copy.number m.to (Ok tt)
  pub device : opened.device ≡ old.device
  pub turns : Path IsTurn IsAny opened new
  pub ends : DrainEnds left new how
  pub costs : DrainCosts patience left opened new how

-- its move has ended so, for its cause, and is closed
pub record EndsSo (m : PlannedMove) (patience left : ℕ) (old new : State) (how : CopyState) : Type 0 where
  pub ended : State
  pub turns : TurnsEnd m patience left old ended (Ok tt)
  pub how_is : copy_state ended.core ≡ how
  pub caused : IsCopyCaused ended
  pub is : new ≡ state ended.device (closed ended.core)

-- it is done, and its commit has this answer
pub record CommitGives (m : PlannedMove) (patience left : ℕ) (old new : State) (answer : Result (Unit {0}) CommitFault) : Type 0 where
  pub ended : State
  pub between : ℕ
  pub turns : TurnsEnd m patience between old ended (Ok tt)
  pub done : copy_state ended.core ≡ copy.Done
  pub commits : CommitsOpenMove between left ended new answer

-- it isn't opened for this, and nothing changes
pub record IsNotOpened (m : PlannedMove) (patience left : ℕ) (old new : State) (why : OpenFault) : Type 0 where
  pub why_is : fault_of_move old.core m ≡ Some why
  pub same : new ≡ old
  pub left_is : left ≡ patience

-- the turns or the commit break off for this
abbrev pub BreaksOff : PlannedMove → ℕ → ℕ → State → State → CommitFault → Type 0
BreaksOff m patience left old new why = TurnsEnd m patience left old new (Err why) ⊎ CommitGives m patience left old new (Err why)

-- Why it is the last: it isn't opened; its move ends otherwise than as done; the session ends or the patience runs out; or memory for the next descriptor is wanting.
abbrev pub StopsAt : PlannedMove → ℕ → ℕ → State → State → MoveFault → Type 0
StopsAt m patience left old new fault.Dark = IsNotOpened m patience left old new denial.Dark ⊎ BreaksOff m patience left old new commit.Dark
StopsAt m patience left old new (fault.WentOff have total) =
    (IsNotOpened m patience left old new denial.Off × (have ≡ votes_there old.core) × (total ≡ total_votes old.core.descriptor)) ⊎ BreaksOff m patience left old new (commit.WentOff have total)
StopsAt m patience left old new fault.Stuck = BreaksOff m patience left old new commit.Stuck
StopsAt m patience left old new (fault.Missing disk) = IsNotOpened m patience left old new (denial.Missing disk)
StopsAt m patience left old new fault.HistoryFull = IsNotOpened m patience left old new denial.HistoryFull
StopsAt m patience left old new (fault.NoFresh lp) = (lp ≡ m.copy.lp) × (IsNotOpened m patience left old new denial.NoFresh ⊎ EndsSo m patience left old new copy.NoFresh)
StopsAt m patience left old new (fault.SyncFailed disk) = EndsSo m patience left old new (copy.SyncFailed disk)
StopsAt m patience left old new fault.Memory = (fault_of_move old.core m ≡ None) × (new ≡ old) × (left ≡ patience)
StopsAt m patience left old new fault.Busy = ⊥
StopsAt m patience left old new (fault.Strict lp) = ⊥
StopsAt m patience left old new (fault.NoRoom free) = ⊥

-- it has moved, or is the last
abbrev pub MovesOne : PlannedMove → ℕ → ℕ → State → State → Result (Unit {0}) MoveFault → Type 0
MovesOne m patience left old new (Ok done) = CommitGives m patience left old new (Ok tt)
MovesOne m patience left old new (Err why) = StopsAt m patience left old new why

-- ---- its calls

-- what the plan says of it: no copy is open, and nothing but the session, the second disk and the fresh copies may be in the way
abbrev pub MayOpen : Core → PlannedMove → Type 0
MayOpen core m = (why : OpenFault) → fault_of_move core m ≡ Some why → IsAgainst why

-- for this, or for want of memory
abbrev pub IsDeniedBy : Core → PlannedMove → OpenFault → Type 0
IsDeniedBy core m denial.Memory = fault_of_move core m ≡ None
IsDeniedBy core m why = fault_of_move core m ≡ Some why

-- it is opened, or isn't, and then nothing changes
abbrev pub Opens : State → State → PlannedMove → Result (Unit {0}) MoveFault → Type 0
Opens old new m (Ok done) = (fault_of_move old.core m ≡ None) × OpenMoveGives (counts_seen old.device old.core) old.core new.core m.copy.lv m.copy.lp m.copy.number m.to (Ok tt) × (new.device ≡ old.device)
Opens old new m (Err why) = (new ≡ old) × ((denied : OpenFault) × IsOfOpening denied × IsDeniedBy old.core m denied × (why ≡ opening_fault_is denied m.copy.lp (votes_there old.core, total_votes old.core.descriptor)))

-- how a move ends that isn't done, once turns find nothing to do
abbrev pub HasFailed : CopyState → Type 0
HasFailed (copy.SyncFailed disk) = Unit {0}
HasFailed copy.NoFresh = Unit {0}
HasFailed _ = ⊥

abbrev pub ended_fault : CopyState → ℕ → MoveFault
ended_fault (copy.SyncFailed disk) lp = fault.SyncFailed disk
ended_fault copy.NoFresh lp = fault.NoFresh lp
ended_fault _ lp = fault.Busy

-- turns find nothing to do, and a move is open, which is done or has failed
pub record MayConclude (s : State) : Type 0 where
  pub drained : IsDrained s
  pub moves : is_moving s.core ≡ true
  pub ends : (copy_state s.core ≡ copy.Done) ⊎ HasFailed (copy_state s.core)
  pub epoch : s.core.status.stamp.epoch ≢ 0

-- as the commit was answered
abbrev pub IsAnswerOf : Result (Unit {0}) CommitFault → Result (Unit {0}) MoveFault → Type 0
IsAnswerOf (Ok done) answer = answer ≡ Ok tt
IsAnswerOf (Err why) answer = answer ≡ Err (commit_fault_is why)

-- it is done, and committed; its disk isn't missing
pub record CommitsIt (patience left : ℕ) (old new : State) (answer : Result (Unit {0}) MoveFault) : Type 0 where
  pub done : copy_state old.core ≡ copy.Done
  pub how : Result (Unit {0}) CommitFault
  pub commits : CommitsOpenMove patience left old new how
  pub there : IfErr how (λ why. (disk : ℕ) → why ≡ commit.DiskFailed disk → ⊥)
  pub answer_is : IsAnswerOf how answer

-- it has failed for its cause, and is closed
pub record GivesItUp (lp patience left : ℕ) (old new : State) (answer : Result (Unit {0}) MoveFault) : Type 0 where
  pub failed : HasFailed (copy_state old.core)
  pub caused : IsCopyCaused old
  pub is : new ≡ state old.device (closed old.core)
  pub same : left ≡ patience
  pub answer_is : answer ≡ Err (ended_fault (copy_state old.core) lp)

-- it is committed where it is done; else it is closed
abbrev pub Concludes : ℕ → ℕ → ℕ → State → State → Result (Unit {0}) MoveFault → Type 0
Concludes lp patience left old new answer = CommitsIt patience left old new answer ⊎ GivesItUp lp patience left old new answer
