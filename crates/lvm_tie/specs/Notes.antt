-- The ends of writes of notes.
use Rattle.std.specs.Prelude.{◌≡◌, ℕ}
use Rattle.lvm_session.specs.declared.flown.Owner.TheVariants as owner
use Rattle.lvm_session.specs.State.{State}
use Rattle.lvm_session.specs.Ends.{Ends}
use Rattle.lvm_tie.specs.Tied.{Ties}

-- the write of a note has ended, well or badly
pub record EndsOfNote (old new : State) (at disk : ℕ) : Type 0 where
  pub ends : Ends old new at
  pub own : ends.row.owner ≡ owner.Note disk

-- It leaves a tied session tied.
abbrev pub NoteEndTies : Type 0
NoteEndTies = (at disk : ℕ) → Ties (λ old new. EndsOfNote old new at disk)
