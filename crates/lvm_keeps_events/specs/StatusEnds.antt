-- The ends of writes of notes and of the status leave a session sound, and less work.
use Rattle.std.specs.Prelude.{◌≡◌, ◌<◌, ℕ, Bool, false}
use Rattle.lvm_num.specs.Buffer.{Buffer}
use Rattle.lvm_session.specs.declared.flown.Flown.{Flown}
use Rattle.lvm_session.specs.declared.flown.Owner.TheVariants as owner
use Rattle.lvm_session.specs.declared.open.Power.TheVariants as power
use Rattle.lvm_session.specs.State.{State}
use Rattle.lvm_session.specs.Ends.{NoteLearns, Returns, StatusLearns}
use Rattle.lvm_session.specs.Left.{left_of}
use Rattle.lvm_session.specs.Sound.{IsSound}
use Rattle.lvm_keeps.specs.Keeps.{KeepsSound}
use Rattle.lvm_keeps_events.specs.Ends.{EndsNote}

-- the write of a note has failed, and its disk is missing
pub record FailsNote (old new : State) (at disk : ℕ) : Type 0 where
  pub row : Flown
  pub buf : Buffer
  pub own : row.owner ≡ owner.Note disk
  pub returns : Returns old new at row false buf
  pub learns : NoteLearns old.core at disk false buf new.core

abbrev pub NoteFailKeeps : Type 0
NoteFailKeeps = (at disk : ℕ) → KeepsSound (λ old new. FailsNote old new at disk)

-- a write of the update in flight has ended, well or badly
pub record EndsStatus (old new : State) (at disk : ℕ) (ok : Bool) : Type 0 where
  pub row : Flown
  pub buf : Buffer
  pub own : row.owner ≡ owner.Status disk
  pub returns : Returns old new at row ok buf
  pub learns : StatusLearns old.core at disk ok buf new.core

abbrev pub StatusEndKeeps : Type 0
StatusEndKeeps = (at disk : ℕ) (ok : Bool) → KeepsSound (λ old new. EndsStatus old new at disk ok)

-- ---- the work that is left

-- an event of a session that is on leaves less work, also where the votes are lost
abbrev pub Lowers : (State → State → Type 0) → Type 0
Lowers Event = (old new : State) → IsSound old → old.core.power ≡ power.On → Event old new → left_of new.core < left_of old.core

abbrev pub NoteEndFalls : Type 0
NoteEndFalls = (at disk : ℕ) → Lowers (λ old new. EndsNote old new at disk)

abbrev pub NoteFailFalls : Type 0
NoteFailFalls = (at disk : ℕ) → Lowers (λ old new. FailsNote old new at disk)

abbrev pub StatusEndFalls : Type 0
StatusEndFalls = (at disk : ℕ) (ok : Bool) → Lowers (λ old new. EndsStatus old new at disk ok)
