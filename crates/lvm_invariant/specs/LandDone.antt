-- A write lands as Done.
use Rattle.std.specs.Prelude.{◌≡◌, ◌⊎◌, ℕ, true, [], ◌∷◌, ◌++◌, Some, IsTrue}
use Rattle.lvm_num.specs.declared.place.Pp.{Pp}
use Rattle.lvm_num.specs.Geometry.{track_group_of}
use Rattle.lvm_invariant.specs.Found.{Votes}
use Rattle.lvm_invariant.specs.Updates.{landed}
use Rattle.lvm_invariant.specs.State.{Stage, Well, Badly, Queued, ModelState, is_settled_stale, HasPassed, Started}
use Rattle.lvm_vol.specs.Facts.{Landed}
use Rattle.lvm_invariant.specs.Good.{Good}
use Rattle.lvm_vol.specs.declared.entry.Outcome.TheVariants as outcome

-- the copy is stale by what is committed and under way, and isn't being brought up, or not so far
pub record IsDropped (s : ModelState) (r : Queued) (c : Pp) : Type 0 where
  pub stale : IsTrue (is_settled_stale s c)
  pub uncaught : HasPassed s r.lv (track_group_of r.first) c → ⊥

-- each target has ended, well or as a dropped one
pub record LandsDone (s : ModelState) (i : ℕ) (r : Queued) : Type 0 where
  pub started : Started s i r
  pub ended : (c : Pp) (stage : Stage) → r.targets c ≡ Some stage → (stage ≡ Well) ⊎ ((stage ≡ Badly) × IsDropped s r c)

abbrev pub done : ModelState → ℕ → Queued → ModelState
done s i r = landed s i r (s.facts ++ Landed (s.name i) outcome.Done true [] ∷ [])

abbrev pub LandDoneKeeps : Type 0
LandDoneKeeps = (votes : Votes) (s : ModelState) (i : ℕ) (r : Queued) → LandsDone s i r → Good votes s → Good votes (done s i r)
