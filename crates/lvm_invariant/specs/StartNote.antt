-- A write of a consistency record starts.
use Rattle.std.specs.Prelude.{◌≡◌, ◌⊎◌, ℕ, Option, Some, None, IsFalse}
use Rattle.lvm_invariant.specs.Found.{Votes}
use Rattle.lvm_invariant.specs.State.{Groups, ModelState}
use Rattle.lvm_invariant.specs.Good.{Good}

-- a note that carries the whole cache starts to a disk that isn't missing and to which none is out
pub record StartsNote (s : ModelState) (flying : ℕ → Option Groups) : Type 0 where
  pub disk : ℕ
  pub there : IsFalse (s.missing disk)
  pub none : s.flying_note disk ≡ None
  pub each : (d : ℕ) → (flying d ≡ s.flying_note d) ⊎ ((d ≡ disk) × (flying d ≡ Some s.cache))

abbrev pub StartNoteKeeps : Type 0
StartNoteKeeps = (votes : Votes) (s : ModelState) (flying : ℕ → Option Groups) → StartsNote s flying → Good votes s → Good votes (record s { flying_note = flying })
