-- A read lands as ReadFailed.
use Rattle.std.specs.Prelude.{◌≡◌, ℕ, true, [], ◌∷◌, ◌++◌, Some, IsTrue, IsFalse}
use Rattle.lvm_num.specs.declared.place.Pp.{Pp}
use Rattle.lvm_invariant.specs.Found.{Votes}
use Rattle.lvm_invariant.specs.Updates.{landed}
use Rattle.lvm_invariant.specs.State.{Stage, Badly, Queued, ModelState, is_past}
use Rattle.lvm_vol.specs.Facts.{Landed}
use Rattle.lvm_invariant.specs.Good.{Good}
use Rattle.lvm_vol.specs.declared.entry.Outcome.TheVariants as outcome

-- it failed on each copy of its order
pub record ReadFails (s : ModelState) (i : ℕ) (r : Queued) : Type 0 where
  pub there : s.queue i ≡ Some r
  pub request : IsFalse r.step
  pub read : IsFalse r.write
  pub past : IsTrue (is_past r.phase)
  pub failed : (c : Pp) (stage : Stage) → r.targets c ≡ Some stage → stage ≡ Badly

abbrev pub read_failed : ModelState → ℕ → Queued → ModelState
read_failed s i r = landed s i r (s.facts ++ Landed (s.name i) outcome.ReadFailed true [] ∷ [])

abbrev pub LandReadFailedKeeps : Type 0
LandReadFailedKeeps = (votes : Votes) (s : ModelState) (i : ℕ) (r : Queued) → ReadFails s i r → Good votes s → Good votes (read_failed s i r)
