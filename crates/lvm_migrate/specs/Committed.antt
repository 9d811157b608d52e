-- Which descriptors were being committed on the way of a session.
use Rattle.std.specs.Prelude.{List, [], ◌∷◌, ◌++◌}
use Rattle.std.specs.List.{AllByRecursion}
use Rattle.lvm_disk.specs.Paths.{Here, Path, Then}
use Rattle.lvm_num.specs.Among.{IsOneOf}
use Rattle.lvm_num.specs.declared.descriptor.Descriptor.{Descriptor}
use Rattle.lvm_session.specs.State.{State}
use Rattle.lvm_keeps_events.specs.Losing.{LosesByFaults}
use Rattle.lvm_going.specs.Going.{BeginsMove, CommitsItsMove, Leaves, LeavesMoving, MovingStep}
use Rattle.lvm_move_plan.specs.declared.plan.PlannedMove.{PlannedMove}
use Rattle.lvm_move_plan.specs.Laws.{after_move}

-- the one that a step commits, whatever it is answered
abbrev pub next_on : {old new : State} → MovingStep old new → List Descriptor
next_on (Leaves it) = []
next_on (CommitsItsMove before after answer c drained epoch commits) = commits.next ∷ []
next_on (BeginsMove lv lp number to answer unstuck apart gives same) = []

-- those of all steps, in order
abbrev pub committed_on : {P : State → Type 0} {first last : State} → Path MovingStep P first last → List Descriptor
committed_on (Here here) = []
committed_on (Then path step there) = committed_on path ++ next_on step

-- the groups through which a plan goes, from the first move on
abbrev pub stages : Descriptor → List PlannedMove → List Descriptor
stages d [] = []
stages d (m ∷ rest) = after_move d m ∷ stages (after_move d m) rest

-- The session goes on by turns, by copies that begin to move, and by commits of moves, each of which is of a descriptor that is so; and disks come to be missing by faults alone.
pub record GoesCommitting (Is : Descriptor → Type 0) (old new : State) : Type 0 where
  pub leaves : LeavesMoving old new
  pub planned : AllByRecursion Is (committed_on leaves)
  pub loses : LosesByFaults old new

-- each that was being committed is one through which the plan goes
abbrev pub MovesAsPlanned : List PlannedMove → State → State → Type 0
MovesAsPlanned moves old new = GoesCommitting (λ (k : Descriptor). IsOneOf (stages old.core.descriptor moves) k) old new
