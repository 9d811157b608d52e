-- The copies that stand on missing disks move to spares, one after the other, and what comes of it.
use Rattle.std.specs.Prelude.{◌≡◌, ◌⊎◌, ℕ, ◌||◌, nat_le, nat_lt, Bool, false, List, [], ◌∷◌, ◌++◌, length, map, Option, None, Some, is_some, if◌then◌else◌, Result, Ok, Err}
use Rattle.lvm_vol.specs.Log.{spare_entries}
use Rattle.lvm_num.specs.Among.{IsOneOf}
use Rattle.lvm_num.specs.declared.place.Pp.{Pp}
use Rattle.lvm_num.specs.declared.descriptor.LvRow.{LvRow}
use Rattle.lvm_num.specs.declared.descriptor.Descriptor.{Descriptor}
use Rattle.lvm_session.specs.declared.open.Power.TheVariants as power
use Rattle.lvm_session.specs.Calls.{has_numbers}
use Rattle.lvm_session.specs.State.{Core, State}
use Rattle.lvm_move_plan.specs.declared.standing.VolumeCopy.{VolumeCopy}
use Rattle.lvm_move_plan.specs.declared.plan.PlannedMove.{PlannedMove}
use Rattle.lvm_move_plan.specs.Laws.{after_move, after_moves}
use Rattle.lvm_move_plan.specs.Standing.{listed, standing_among}
use Rattle.lvm_migrate.specs.declared.fault.MoveFault.{MoveFault}
use Rattle.lvm_migrate.specs.declared.fault.MoveFault.TheVariants as move
use Rattle.lvm_migrate.specs.Migrating.{AreFreshBut, IsLeftShut, MoveCause, refusal_by}
use Rattle.lvm_migrate.specs.Committed.{GoesCommitting, MovesAsPlanned, stages}
use Rattle.lvm_migrate.specs.Moving.{CommitGives, StopsAt, fault_of_move}
use Rattle.lvm_rebuild.specs.declared.fault.RebuildFault.{RebuildFault}
use Rattle.lvm_rebuild.specs.declared.fault.RebuildFault.TheVariants as fault
use Rattle.lvm_rebuild.specs.declared.rebuilding.RebuildPlan.{RebuildPlan}
use Rattle.lvm_rebuild.specs.Choosing.{choice_of, lost_copies, lost_members}

-- ---- why none is begun

-- a copy or a request is open
abbrev pub is_busy : Core → Bool
is_busy core = is_some core.copy || nat_lt 0 (length core.requests)

-- two entries and 65,536 numbers are left
abbrev pub has_entries : Core → Bool
has_entries core = nat_le 2 (spare_entries core.history)

abbrev pub busy_or_full : Core → Option MoveFault
busy_or_full core = if is_busy core then Some move.Busy else if has_entries core then (if has_numbers core then None else Some move.HistoryFull) else Some move.HistoryFull

-- what stands against it, the session first
abbrev pub rebuild_refusal : Core → Option MoveFault
rebuild_refusal core = refusal_by core.power core (busy_or_full core)

-- The missing members and their copies are listed where nothing does. Memory may be wanting then.
abbrev pub IsPlanned : Core → Result RebuildPlan RebuildFault → Type 0
IsPlanned core (Ok plan) = (rebuild_refusal core ≡ None) × (plan.lost ≡ lost_members core) × (plan.copies ≡ lost_copies core)
IsPlanned core (Err why) = ((w : MoveFault) × (rebuild_refusal core ≡ Some w) × (why ≡ fault.Move w)) ⊎ ((rebuild_refusal core ≡ None) × (why ≡ fault.Move move.Memory))

-- ---- one copy

-- it goes to this partition
abbrev pub move_to : VolumeCopy → Pp → PlannedMove
move_to c pp = record { copy = c; to = pp }

-- Why it is the last: there is no partition for it, and nothing changes; or its move, against which nothing stands, is the last.
abbrev pub StopsAtCopy : List ℕ → VolumeCopy → ℕ → ℕ → State → State → RebuildFault → Type 0
StopsAtCopy lost c patience left old new why =
    ((choice_of old.core lost c ≡ Err why) × (new ≡ old) × (left ≡ patience))
    ⊎ ((pp : Pp) × (w : MoveFault) × (choice_of old.core lost c ≡ Ok pp) × (why ≡ fault.Move w) × (fault_of_move old.core (move_to c pp) ≡ None) × StopsAt (move_to c pp) patience left old new w)

-- it has moved to the partition that is chosen for it, or is the last
abbrev pub RebuildsOne : List ℕ → VolumeCopy → ℕ → ℕ → State → State → Result (Unit {0}) RebuildFault → Type 0
RebuildsOne lost c patience left old new (Ok done) = (pp : Pp) × (choice_of old.core lost c ≡ Ok pp) × CommitGives (move_to c pp) patience left old new (Ok tt)
RebuildsOne lost c patience left old new (Err why) = StopsAtCopy lost c patience left old new why

-- the group in which it has
abbrev pub IsGroupAfter : List ℕ → VolumeCopy → Core → Descriptor → Type 0
IsGroupAfter lost c core d = (pp : Pp) × (choice_of core lost c ≡ Ok pp) × (d ≡ after_move core.descriptor (move_to c pp))

-- ---- all of them

-- These have moved, in order, each to the partition that was chosen for it then, and the patience that is left.
pub data HaveRebuilt (lost : List ℕ) (first : State) (patience : ℕ) : List PlannedMove → State → ℕ → Type 0 where
  NoneRebuilt : HaveRebuilt lost first patience [] first patience
  OneRebuilt : {moves : List PlannedMove} {old new : State} {before left : ℕ} (m : PlannedMove) → HaveRebuilt lost first patience moves old before → choice_of old.core lost m.copy ≡ Ok m.to
      → CommitGives m before left old new (Ok tt) → HaveRebuilt lost first patience (moves ++ m ∷ []) new left

-- the copies that these move
abbrev pub copies_moved : List PlannedMove → List VolumeCopy
copies_moved moves = map (λ (m : PlannedMove). m.copy) moves

-- All have moved, in order. So no volume has a partition on a member that was missing; each copy that had one is fresh, or a transfer of its disk has failed meanwhile; and what was being
-- committed on the way are the groups in which some of them had moved.
pub record AreRebuilt (lost : List ℕ) (copies : List VolumeCopy) (patience left : ℕ) (old new : State) : Type 0 where
  pub moves : List PlannedMove
  pub all : copies_moved moves ≡ copies
  pub have : HaveRebuilt lost old patience moves new left
  pub stand : new.core.descriptor ≡ after_moves old.core.descriptor moves
  pub none : standing_among new.core.descriptor None (listed lost) ≡ []
  pub fresh : AreFreshBut moves old new
  pub way : MovesAsPlanned moves old new

-- Those before one have moved, which is the last. What was being committed on the way are the groups in which some of them had moved, or the one in which it had.
pub record StopsRebuilding (lost : List ℕ) (copies : List VolumeCopy) (patience left : ℕ) (old new : State) (why : RebuildFault) : Type 0 where
  pub moves : List PlannedMove
  pub one : VolumeCopy
  pub rest : List VolumeCopy
  pub all : copies ≡ copies_moved moves ++ one ∷ rest
  pub mid : State
  pub before : ℕ
  pub have : HaveRebuilt lost old patience moves mid before
  pub stops : StopsAtCopy lost one before left mid new why
  pub stand : new.core.descriptor ≡ after_moves old.core.descriptor moves
  pub way : GoesCommitting (λ (k : Descriptor). IsOneOf (stages old.core.descriptor moves) k ⊎ IsGroupAfter lost one mid.core k) old new

abbrev pub RebuildsAll : List ℕ → List VolumeCopy → ℕ → ℕ → State → State → Result ℕ RebuildFault → Type 0
RebuildsAll lost copies patience left old new (Ok count) = AreRebuilt lost copies patience left old new × (count ≡ length copies)
RebuildsAll lost copies patience left old new (Err why) = StopsRebuilding lost copies patience left old new why

-- nothing changes
abbrev pub RefusesRebuild : ℕ → ℕ → State → State → Result ℕ RebuildFault → MoveFault → Type 0
RefusesRebuild patience left old new answer why = (answer ≡ Err (fault.Move why)) × (new ≡ old) × (left ≡ patience)

-- Where something stands against it none is begun. None is either where memory for the lists is wanting.
pub data RebuildGives (patience left : ℕ) (old new : State) (answer : Result ℕ RebuildFault) : Type 0 where
  Rebuilds : rebuild_refusal old.core ≡ None → RebuildsAll (lost_members old.core) (lost_copies old.core) patience left old new answer → RebuildGives patience left old new answer
  IsRefused : (why : MoveFault) → rebuild_refusal old.core ≡ Some why → RefusesRebuild patience left old new answer why → RebuildGives patience left old new answer
  LacksMemory : rebuild_refusal old.core ≡ None → RefusesRebuild patience left old new answer move.Memory → RebuildGives patience left old new answer

-- ---- what it leaves

-- the first of these copies stand on other partitions, each on one
pub record StandRebuilt (copies : List VolumeCopy) (d new : Descriptor) : Type 0 where
  pub moves : List PlannedMove
  pub rest : List VolumeCopy
  pub all : copies ≡ copies_moved moves ++ rest
  pub is : new ≡ after_moves d moves

-- the group but for where its copies stand
abbrev pub unplaced : Descriptor → Descriptor
unplaced d = record d { lvs = map (λ (row : LvRow). record row { map = [] }) d.lvs }

-- no copy is left open where the session goes on, unless nothing was heard of a transfer
abbrev pub IsLeftShutBy : {A : Type 0} → Core → Result A RebuildFault → Type 0
IsLeftShutBy core (Ok done) = (core.power ≡ power.On) × (core.copy ≡ None)
IsLeftShutBy core (Err (fault.Move why)) = IsLeftShut {A = Unit {0}} core (Err why)
IsLeftShutBy core (Err (fault.NoSpare lp)) = (core.power ≡ power.On → core.copy ≡ None) × (core.power ≡ power.Stuck → ⊥)

-- As where copies move; the history may have few entries left too.
abbrev pub RebuildCause : ℕ → State → State → RebuildFault → Type 0
RebuildCause patience old new (fault.Move move.HistoryFull) = (has_numbers new.core ≡ false) ⊎ (has_entries new.core ≡ false)
RebuildCause patience old new (fault.Move why) = MoveCause patience old new why
RebuildCause patience old new (fault.NoSpare lp) = Unit {0}

-- ---- what ends it

-- of the faults of moves these don't
abbrev pub IsOfRebuilding : RebuildFault → Type 0
IsOfRebuilding (fault.Move (move.Missing disk)) = ⊥
IsOfRebuilding (fault.Move (move.Strict lp)) = ⊥
IsOfRebuilding (fault.Move (move.NoRoom free)) = ⊥
IsOfRebuilding why = Unit {0}

-- So it is whatever happens.
abbrev pub RebuildsEndSo : Type 0
RebuildsEndSo = (patience left : ℕ) (old new : State) (why : RebuildFault) → RebuildGives patience left old new (Err why) → IsOfRebuilding why
