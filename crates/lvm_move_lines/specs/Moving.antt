-- What `migratepv` does.
use Rattle.std.specs.Prelude.{◌≡◌, ◌≢◌, ℕ, List, [], Option, Some, None, Result, Ok, Err, IfErr, IfOk, if◌then◌else◌}
use Rattle.std.specs.Global.{Vec}
use Rattle.lvm_num.specs.Status.{calls_missing}
use Rattle.lvm_disk.specs.Device.{Device}
use Rattle.lvm_session.specs.declared.open.Power.TheVariants as power
use Rattle.lvm_session.specs.Calls.{has_numbers}
use Rattle.lvm_session.specs.Sound.{IsSound}
use Rattle.lvm_session.specs.State.{Core, State}
use Rattle.lvm_move_plan.specs.Planned.{planned_moves}
use Rattle.lvm_migrate.specs.declared.fault.MoveFault.{MoveFault}
use Rattle.lvm_migrate.specs.declared.fault.MoveFault.TheVariants as fault
use Rattle.lvm_migrate.specs.Migrating.{AreFreshBut, GoesBesideMoving, IsLeftEmpty, MigrateGives, MoveCause, StandMoved}
use Rattle.lvm_migrate.specs.Committed.{MovesAsPlanned}
use Rattle.lvm_range_lines.specs.Leaving.{EndsInSession, FailsIf, session_over}
use Rattle.lvm_range_lines.specs.passed.GroupLines.{IsRefused, Refusal, Reply, ScriptState, is_unheard, patience_of_line}
use Rattle.lvm_range_lines.specs.passed.RefusalVariants as refusal
use Rattle.lvm_range_lines.specs.passed.ReplyVariants as reply
use Rattle.lvm_move_lines.specs.Asking.{IsAsked, IsNotAsked}

-- ---- replies

-- why copies don't move, or no more of them, as the refusal of the line
abbrev pub move_refusal : MoveFault → Refusal
move_refusal fault.Dark = refusal.Dark
move_refusal (fault.WentOff have total) = refusal.WentOff have total
move_refusal fault.Busy = refusal.Busy
move_refusal (fault.Missing disk) = refusal.Missing disk
move_refusal (fault.Strict lp) = refusal.Strict lp
move_refusal (fault.NoRoom free) = refusal.NoRoom free
move_refusal fault.HistoryFull = refusal.HistoryFull
move_refusal (fault.SyncFailed disk) = refusal.SyncFailed disk
move_refusal (fault.NoFresh lp) = refusal.NoFresh lp
move_refusal fault.Stuck = refusal.Stuck
move_refusal fault.Memory = refusal.Memory

-- how many have moved, or why no more have
abbrev pub move_reply : Result ℕ MoveFault → Reply
move_reply (Ok moved) = reply.Migrated moved
move_reply (Err why) = reply.Refused (move_refusal why)

-- The replies behind which copies may have moved: all of them have, or one wasn't to move any more. By the others something stood against the plan.
abbrev pub MayHaveMoved : Reply → Type 0
MayHaveMoved (reply.Migrated moved) = Unit {0}
MayHaveMoved (reply.Refused refusal.Dark) = Unit {0}
MayHaveMoved (reply.Refused (refusal.WentOff have total)) = Unit {0}
MayHaveMoved (reply.Refused refusal.Stuck) = Unit {0}
MayHaveMoved (reply.Refused (refusal.Missing disk)) = Unit {0}
MayHaveMoved (reply.Refused refusal.HistoryFull) = Unit {0}
MayHaveMoved (reply.Refused (refusal.SyncFailed disk)) = Unit {0}
MayHaveMoved (reply.Refused (refusal.NoFresh lp)) = Unit {0}
MayHaveMoved (reply.Refused refusal.Memory) = Unit {0}
MayHaveMoved other = ⊥

-- In a group without volumes no copy is there to move: the second disk is missing, the numbers of stamps are short, or none has moved.
abbrev pub empty_reply : Core → ℕ → Reply
empty_reply core to = if calls_missing core.status.committed to then reply.Refused (refusal.Missing to) else if has_numbers core then reply.Migrated 0 else reply.Refused refusal.HistoryFull

-- what a line is answered in such a group
pub data EmptyAnswers (core : Core) (volume : Option (List ℕ)) (from to : ℕ) (answer : Reply) : Type 0 where
  RefusesToMove : (why : Refusal) → IsNotAsked core.descriptor volume from to why → answer ≡ reply.Refused why → EmptyAnswers core volume from to answer
  MovesNone : (lv : Option ℕ) → IsAsked core.descriptor volume from to lv → answer ≡ empty_reply core to → EmptyAnswers core volume from to answer

-- ---- the line

-- From one moment of a session to a later one the copies have moved as they are planned, or none or not all of them for this reason: which have, what happened
-- meanwhile, that none which was asked for is left where all have, and is fresh; and that the session is on then.
pub record SessionMigrates (lv : Option ℕ) (from to left : ℕ) (old new : State) (result : Result ℕ MoveFault) : Type 0 where
  pub gives : MigrateGives lv from to patience_of_line left old new result
  pub stand : StandMoved (planned_moves old.core.descriptor lv from to) old.core.descriptor new.core.descriptor result
  pub beside : GoesBesideMoving old new patience_of_line left
  pub way : MovesAsPlanned (planned_moves old.core.descriptor lv from to) old new
  pub empty : IfOk result (λ moved. IsLeftEmpty lv from new.core.descriptor)
  pub fresh : IfOk result (λ moved. AreFreshBut (planned_moves old.core.descriptor lv from to) old new)
  pub caused : IfErr result (MoveCause patience_of_line old new)
  pub on : IfOk result (λ moved. new.core.power ≡ power.On)

-- So it was in the session that is on, with the patience of a line; and so it goes on, or is closed.
pub record IsMigrated (lv : Option ℕ) (from to : ℕ) (core : Core) (old new : ScriptState) (answer : Reply) : Type 0 where
  pub end : State
  pub left : ℕ
  pub result : Result ℕ MoveFault
  pub session : SessionMigrates lv from to left (session_over old core) end result
  pub sound : IsSound end
  pub leaves : FailsIf (is_unheard answer) end old.posts old.last new
  pub says : answer ≡ move_reply result

-- It is refused while no group is on, where a disk is no member of the group, and where the group has no volume of the name. In a group without volumes none moves;
-- else the copies on the first disk move to the second.
pub data MigratepvDoes (volume : Option (List ℕ)) (from to : ℕ) (old new : ScriptState) (answer : Reply) : Type 0 where
  NoGroupForMoves : old.session ≡ None → IsRefused refusal.NoGroup answer old new → MigratepvDoes volume from to old new answer
  NotAskedForMoves : (core : Core) (why : Refusal) → old.session ≡ Some core → IsNotAsked core.descriptor volume from to why → IsRefused why answer old new → MigratepvDoes volume from to old new answer
  NothingMoves : (core : Core) (lv : Option ℕ) → old.session ≡ Some core → IsAsked core.descriptor volume from to lv → core.descriptor.lvs ≡ [] → answer ≡ empty_reply core to → new ≡ old
      → MigratepvDoes volume from to old new answer
  MovesCopies : (core : Core) (lv : Option ℕ) → old.session ≡ Some core → IsAsked core.descriptor volume from to lv → core.descriptor.lvs ≢ [] → IsMigrated lv from to core old new answer
      → MigratepvDoes volume from to old new answer

-- ---- stages

-- The copies that were asked for move in this session, whatever volume was named for them, and whatever posts stand there.
abbrev pub MovesInSession : {S : Type 0} → (S → Device) → Option ℕ → ℕ → ℕ → S × Core → S × Core → Reply → Type 0
MovesInSession device lv from to old new answer =
    (volume : Option (List ℕ)) → IsAsked old.1.descriptor volume from to lv → (bytes : Vec ℕ) → EndsInSession device (MigratepvDoes volume from to) old bytes new bytes answer
