-- A write lands as Lost.
use Rattle.std.specs.Prelude.{◌≡◌, ◌⊎◌, ℕ, true, [], ◌∷◌, ◌++◌, Some}
use Rattle.lvm_num.specs.declared.place.Pp.{Pp}
use Rattle.lvm_invariant.specs.LandDone.{IsDropped}
use Rattle.lvm_invariant.specs.Found.{Votes}
use Rattle.lvm_invariant.specs.Updates.{landed}
use Rattle.lvm_invariant.specs.State.{Stage, Well, Badly, Queued, ModelState, Started}
use Rattle.lvm_vol.specs.Facts.{Landed}
use Rattle.lvm_invariant.specs.Good.{Good}
use Rattle.lvm_vol.specs.declared.entry.Outcome.TheVariants as outcome

-- each target has ended, and each but one is dropped
pub record LandsLost (s : ModelState) (i : ℕ) (r : Queued) : Type 0 where
  pub started : Started s i r
  pub kept : Pp
  pub ended : (c : Pp) (stage : Stage) → r.targets c ≡ Some stage → (stage ≡ Well) ⊎ (stage ≡ Badly)
  pub dropped : (c : Pp) (stage : Stage) → r.targets c ≡ Some stage → (c ≡ kept) ⊎ IsDropped s r c

abbrev pub lost : ModelState → ℕ → Queued → ModelState
lost s i r = landed s i r (s.facts ++ Landed (s.name i) outcome.Lost true [] ∷ [])

abbrev pub LandLostKeeps : Type 0
LandLostKeeps = (votes : Votes) (s : ModelState) (i : ℕ) (r : Queued) → LandsLost s i r → Good votes s → Good votes (lost s i r)
