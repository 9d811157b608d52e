-- What was being committed while copies moved is of their plan; and where nothing may have moved nothing was.
use Rattle.std.proofs.Common.{◌≡◌, ◌⊎◌, inl, inr, ⊎_elim, ◌++◌, ℕ, List, [], ◌∷◌, Option, Result, Ok, Err, sym, subst}
use Rattle.std.specs.List.{AllByRecursion}
use Rattle.lvm_num.specs.Among.{IsOneOf}
use Rattle.lvm_num.specs.declared.descriptor.Descriptor.{Descriptor}
use Rattle.lvm_disk.specs.Paths.{Here, Then}
use Rattle.lvm_session.specs.State.{Core, State}
use Rattle.lvm_going.specs.Going.{BeginsMove, CommitsItsMove, Leaves, LeavesMoving, MovingStep}
use Rattle.lvm_move_plan.specs.declared.plan.PlannedMove.{PlannedMove}
use Rattle.lvm_migrate.specs.declared.fault.MoveFault.{MoveFault}
use Rattle.lvm_migrate.specs.declared.fault.MoveFault.TheVariants as fault
use Rattle.lvm_migrate.specs.Committed.{MovesAsPlanned, committed_on, next_on, stages}
use Rattle.lvm_migrate.specs.Migrating.{IsRefused, LacksMemory, MigrateGives, Migrates}
use Rattle.lvm_migrate.specs.Moving.{StopsAt}
use Rattle.lvm_range_lines.specs.Leaving.{session_over}
use Rattle.lvm_range_lines.specs.passed.GroupLines.{Reply, ScriptState, patience_of_line}
use Rattle.lvm_range_lines.specs.passed.Tie.{IsCommittedOn, IsNextOf}
use Rattle.lvm_move_lines.specs.Moving.{IsMigrated, MayHaveMoved, move_reply}

-- what holds of each of two lists holds of each of either
front_holds : {X : Type 0} (P : X → Type 0) (xs ys : List X) → AllByRecursion P (xs ++ ys) → AllByRecursion P xs
front_holds P [] ys all = tt
front_holds P (x ∷ xs) ys all = (all.0, front_holds P xs ys all.1)

rest_holds : {X : Type 0} (P : X → Type 0) (xs ys : List X) → AllByRecursion P (xs ++ ys) → AllByRecursion P ys
rest_holds P [] ys all = all
rest_holds P (x ∷ xs) ys all = rest_holds P xs ys all.1

module _ (Is : Descriptor → Type 0) (k : Descriptor) where
  next_is : {old new : State} (step : MovingStep old new) → AllByRecursion Is (next_on step) → IsNextOf step k → Is k
  next_is (Leaves it) all next = absurd next
  next_is (CommitsItsMove before after answer c drained epoch commits) all next = subst Is (sym next) all.0
  next_is (BeginsMove lv lp number to answer unstuck apart gives same) all next = absurd next

  pub one_is : {first last : State} (path : LeavesMoving first last) → AllByRecursion Is (committed_on path) → IsCommittedOn path k → Is k
  one_is (Here any) all it = absurd it
  one_is (Then path step any) all (inl before) = one_is path (front_holds Is (committed_on path) (next_on step) all) before
  one_is (Then path step any) all (inr next) = next_is step (rest_holds Is (committed_on path) (next_on step) all) next

pub is_planned : (moves : List PlannedMove) (old new : State) (way : MovesAsPlanned moves old new) (k : Descriptor) → IsCommittedOn way.leaves k → IsOneOf (stages old.core.descriptor moves) k
is_planned moves old new way k it = one_is (IsOneOf (stages old.core.descriptor moves)) k way.leaves way.planned it

-- ---- where nothing may have moved

module _ (lv : Option ℕ) (from to patience left : ℕ) (old new : State) where
  -- something stood against the plan, since no move ends so
  refused_same : (why : MoveFault) → ((m : PlannedMove) (before : ℕ) (mid : State) → StopsAt m before left mid new why → ⊥) → MigrateGives lv from to patience left old new (Err why) → new ≡ old
  refused_same why never (Migrates none all) = absurd (never all.one all.before all.mid all.stops)
  refused_same why never (IsRefused other refused its) = its.1
  refused_same why never (LacksMemory fine its) = its.1

  moved_or_same : (result : Result ℕ MoveFault) → MigrateGives lv from to patience left old new result → MayHaveMoved (move_reply result) ⊎ (new ≡ old)
  moved_or_same (Ok moved) gives = inl tt
  moved_or_same (Err fault.Dark) gives = inl tt
  moved_or_same (Err (fault.WentOff have total)) gives = inl tt
  moved_or_same (Err fault.Busy) gives = inr (refused_same fault.Busy (λ m before mid stops. stops) gives)
  moved_or_same (Err (fault.Missing disk)) gives = inl tt
  moved_or_same (Err (fault.Strict lp)) gives = inr (refused_same (fault.Strict lp) (λ m before mid stops. stops) gives)
  moved_or_same (Err (fault.NoRoom free)) gives = inr (refused_same (fault.NoRoom free) (λ m before mid stops. stops) gives)
  moved_or_same (Err fault.HistoryFull) gives = inl tt
  moved_or_same (Err (fault.SyncFailed disk)) gives = inl tt
  moved_or_same (Err (fault.NoFresh lp)) gives = inl tt
  moved_or_same (Err fault.Stuck) gives = inl tt
  moved_or_same (Err fault.Memory) gives = inl tt

pub tried_or_same : (lv : Option ℕ) (from to : ℕ) (core : Core) (old new : ScriptState) (answer : Reply) (its : IsMigrated lv from to core old new answer) → MayHaveMoved answer ⊎ (its.end ≡ session_over old core)
tried_or_same lv from to core old new answer its = ⊎_elim
    (λ may. inl (subst MayHaveMoved (sym its.says) may))
    (λ same. inr same)
    (moved_or_same lv from to patience_of_line its.left (session_over old core) its.end its.result its.session.gives)
