-- A write of a consistency record ends.
use Rattle.std.specs.Prelude.{◌≡◌, ◌⊎◌, ℕ, Option, Some, None, IsFalse}
use Rattle.lvm_invariant.specs.Found.{Votes}
use Rattle.lvm_invariant.specs.Updates.{with_names}
use Rattle.lvm_invariant.specs.State.{Groups, ModelState}
use Rattle.lvm_invariant.specs.Good.{Good}

-- The note of a disk ends: well, or with the old one or the new one on the disk, which then is missing already.
pub record EndsNote (s : ModelState) (d : ℕ) (names home : ℕ → Groups) (flying : ℕ → Option Groups) : Type 0 where
  pub note : Groups
  pub was : s.flying_note d ≡ Some note
  pub names_now : (e : ℕ) → (names e ≡ s.media.names e) ⊎ ((e ≡ d) × (names e ≡ note))
  pub home_now : (e : ℕ) → IsFalse (s.missing e) → ((names e ≡ s.media.names e) × (home e ≡ s.home_note e)) ⊎ ((names e ≡ note) × (home e ≡ note))
  pub flying_now : (e : ℕ) → (flying e ≡ s.flying_note e) ⊎ ((e ≡ d) × (flying e ≡ None))

abbrev pub after_note : ModelState → (ℕ → Groups) → (ℕ → Groups) → (ℕ → Option Groups) → ModelState
after_note s names home flying = record s { media = with_names s.media names; home_note = home; flying_note = flying }

abbrev pub EndNoteKeeps : Type 0
EndNoteKeeps = (votes : Votes) (s : ModelState) (d : ℕ) (names home : ℕ → Groups) (flying : ℕ → Option Groups)
    → EndsNote s d names home flying → Good votes s → Good votes (after_note s names home flying)
