-- The end of a note's write, tied.
use Rattle.std.proofs.Common.{◌≡◌, ℕ, Bool, true, false, List, refl, subst}
use Rattle.lvm_vol.specs.Facts.{Fact}
use Rattle.lvm_session.specs.declared.flown.Owner.{Owner}
use Rattle.lvm_session.specs.State.{State}
use Rattle.lvm_session.specs.Ends.{Learns, NoteLearns, Returns}
use Rattle.lvm_session.specs.Sound.{IsSound}
use Rattle.lvm_tie.specs.Tied.{IsTied}
use Rattle.lvm_tie.specs.Notes.{EndsOfNote, NoteEndTies}
use Rattle.lvm_tie.proofs.NotesLemmas.Badly.{loss_tied}
use Rattle.lvm_tie.proofs.NotesLemmas.Well.{note_tied}

module _ (past : List Fact) (old new : State) (at disk : ℕ) (ends : EndsOfNote old new at disk) (tied : IsTied past old) (sound : IsSound new) where
  learns : (ok : Bool) → ends.ends.ok ≡ ok → NoteLearns old.core at disk ok ends.ends.buf new.core
  learns ok is = subst (λ (b : Bool). NoteLearns old.core at disk b ends.ends.buf new.core) is (subst (λ (who : Owner). Learns who old.core at ends.ends.ok ends.ends.buf new.core) ends.own ends.ends.learns)

  returns : (ok : Bool) → ends.ends.ok ≡ ok → Returns old new at ends.ends.row ok ends.ends.buf
  returns ok is = subst (λ (b : Bool). Returns old new at ends.ends.row b ends.ends.buf) is ends.ends.returns

  pub tied_after : IsTied past new
  tied_after = by ends.ends.ok refl
    where
      by : (ok : Bool) → ends.ends.ok ≡ ok → IsTied past new
      by true is = note_tied past old new at disk ends.ends.row ends.ends.buf ends.own (returns true is) (learns true is) tied sound
      by false is = loss_tied past old new at disk ends.ends.row ends.ends.buf ends.own (returns false is) (learns false is) tied sound

pub note_end_ties : NoteEndTies
note_end_ties at disk past old new tied sound ends = tied_after past old new at disk ends tied sound
