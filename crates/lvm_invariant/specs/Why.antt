-- What each event must show of the counts of faults.
use Rattle.std.specs.Prelude.{◌≡◌, ◌⊎◌, ℕ, ◌≤◌, Bool, ◌==◌, if◌then◌else◌, Option, Some, None, IsTrue}
use Rattle.lvm_num.specs.declared.place.Pp.{Pp}
use Rattle.lvm_disk.specs.Counts.{Rose}
use Rattle.lvm_invariant.specs.State.{Marks, Stage, Todo, Badly, Queued, ModelCopy, ModelState}
use Rattle.lvm_invariant.specs.Found.{Votes}
use Rattle.lvm_invariant.specs.Events.{Event, Submit, EnterStep, Admit, Read, Transfer, LandLost, LandReadFailed, Want, CommitUpdate, ModelStep}
use Rattle.lvm_invariant.specs.Faults.{Faults}

-- a write of the queue has failed on the copy
pub record WriteFailedOn (s : ModelState) (c : Pp) : Type 0 where
  pub place : ℕ
  pub write : Queued
  pub there : s.queue place ≡ Some write
  pub writes : IsTrue write.write
  pub failed : write.targets c ≡ Some Badly

-- the copy is the one that is being brought up
pub record IsBroughtUp (s : ModelState) (c : Pp) : Type 0 where
  pub copy : ModelCopy
  pub is_open : s.open_copy ≡ Some copy
  pub target : copy.target ≡ c

-- staleness is wanted of a copy that stands on a missing disk, on which a write has failed, or that was being brought up
abbrev pub IsMarkedFor : ModelState → (ℕ → Bool) → Pp → Type 0
IsMarkedFor s missing c = IsTrue (missing c.disk) ⊎ WriteFailedOn s c ⊎ IsBroughtUp s c

abbrev pub MarksAreFor : ModelState → (ℕ → Bool) → Marks → Type 0
MarksAreFor s missing wanted = (c : Pp) → IsTrue (wanted.stale c) → IsTrue (s.wanted.stale c) ⊎ IsMarkedFor s missing c

-- a disk becomes missing where a write of a record has failed there just now
abbrev pub MissingIsFor : ModelState → (ℕ → Bool) → (ℕ → ℕ) → (ℕ → ℕ) → Type 0
MissingIsFor s missing before after = (d : ℕ) → IsTrue (missing d) → IsTrue (s.missing d) ⊎ Rose (before d) (after d)

-- a transfer ends badly where its disk has failed just now
abbrev pub BadlyIsFor : Stage → Pp → (ℕ → ℕ) → (ℕ → ℕ) → Type 0
BadlyIsFor stage c before after = stage ≡ Badly → Rose (before c.disk) (after c.disk)

-- What an event needs besides its condition, with the counts of faults before and after it.
abbrev pub Why : Event → ModelState → (ℕ → ℕ) → (ℕ → ℕ) → Type 0
Why (Submit i q r) s before after = (c : Pp) → r.targets c ≡ None
Why (EnterStep i q r) s before after = (c : Pp) → r.targets c ≡ None
Why (Admit i r phase several targets) s before after = (c : Pp) (stage : Stage) → targets c ≡ Some stage → stage ≡ Todo
Why (Read i r c stage got) s before after = BadlyIsFor stage c before after
Why (Transfer i r c stage block) s before after = BadlyIsFor stage c before after
-- a target failed, or a copy of the order was tried
Why (LandLost i r) s before after = (c : Pp) × (r.targets c ≡ Some Badly)
Why (LandReadFailed i r) s before after = (c : Pp) × (stage : Stage) × (r.targets c ≡ Some stage)
Why (Want wanted missing open_copy) s before after = MissingIsFor s missing before after × MarksAreFor s missing wanted
Why (CommitUpdate u has_it ended wanted open_copy) s before after = MarksAreFor s s.missing wanted
Why _ s before after = Unit {0}

-- which place of the queue is entered
abbrev pub enters : Event → Option ℕ
enters (Submit i q r) = Some i
enters (EnterStep i q r) = Some i
enters _ = None

abbrev pub asked_at : Option ℕ → Faults → ℕ → ℕ → ℕ
asked_at None w = w.asked
asked_at (Some i) w = λ j. if j == i then w.now else w.asked j

-- No count falls; the counts are kept for what enters the queue; and how the session began stays.
pub record Counted (event : Event) (before after : Faults) : Type 0 where
  pub none_falls : (d : ℕ) → before.now d ≤ after.now d
  pub rest : after ≡ record before { now = after.now; asked = asked_at (enters event) before }

-- an event, with its causes
pub record CausedStep (votes : Votes) (event : Event) (old new : ModelState) (before after : Faults) : Type 0 where
  pub step : ModelStep votes event old new
  pub counts : Counted event before after
  pub why : Why event old before.now after.now
