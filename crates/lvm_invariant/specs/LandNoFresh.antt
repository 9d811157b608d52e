-- A request lands as NoFresh.
use Rattle.std.specs.Prelude.{◌≡◌, ◌⊎◌, ℕ, false, [], ◌∷◌, ◌++◌, Some, IsTrue, IsFalse}
use Rattle.lvm_num.specs.declared.place.Pp.{Pp}
use Rattle.lvm_invariant.specs.Found.{Votes}
use Rattle.lvm_invariant.specs.Updates.{landed}
use Rattle.lvm_invariant.specs.State.{Held, WantEntry, Ready, Queued, ModelState, is_usable}
use Rattle.lvm_vol.specs.Facts.{Landed}
use Rattle.lvm_invariant.specs.Good.{Good}
use Rattle.lvm_vol.specs.declared.entry.Outcome.TheVariants as outcome

-- it isn't admitted yet, or is a write that hasn't started, and its logical partition has no usable copy
pub record FindsNoFresh (s : ModelState) (i : ℕ) (r : Queued) : Type 0 where
  pub there : s.queue i ≡ Some r
  pub request : IsFalse r.step
  pub early : (r.phase ≡ Held) ⊎ (IsTrue r.write × ((r.phase ≡ WantEntry) ⊎ (r.phase ≡ Ready)))
  pub none : (c : Pp) → IsTrue (s.is_copy r.lv r.first c) → IsFalse (is_usable s c)

abbrev pub no_fresh : ModelState → ℕ → Queued → ModelState
no_fresh s i r = landed s i r (s.facts ++ Landed (s.name i) outcome.NoFresh false [] ∷ [])

abbrev pub LandNoFreshKeeps : Type 0
LandNoFreshKeeps = (votes : Votes) (s : ModelState) (i : ℕ) (r : Queued) → FindsNoFresh s i r → Good votes s → Good votes (no_fresh s i r)
