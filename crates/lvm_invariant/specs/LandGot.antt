-- A read lands with what it got.
use Rattle.std.specs.Prelude.{◌≡◌, ℕ, true, List, [], ◌∷◌, ◌++◌, Some, IsTrue, IsFalse, length}
use Rattle.lvm_vol.specs.Facts.{block_of, Landed}
use Rattle.lvm_invariant.specs.Found.{Votes}
use Rattle.lvm_invariant.specs.Updates.{landed}
use Rattle.lvm_invariant.specs.State.{Queued, ModelState, covers, is_past}
use Rattle.lvm_invariant.specs.Good.{Good}
use Rattle.lvm_vol.specs.declared.entry.Outcome.TheVariants as outcome

-- the blocks in the history are those
pub record LandsGot (s : ModelState) (i : ℕ) (r : Queued) (got : List (List ℕ)) : Type 0 where
  pub there : s.queue i ≡ Some r
  pub request : IsFalse r.step
  pub read : IsFalse r.write
  pub past : IsTrue (is_past r.phase)
  pub value : ℕ → List ℕ
  pub has : r.got ≡ Some value
  pub whole : length got ≡ (s.name i).count
  pub blocks : (lv b : ℕ) → IsTrue (covers r lv b) → block_of got (s.name i).at b ≡ value b

abbrev pub with_got : ModelState → ℕ → Queued → List (List ℕ) → ModelState
with_got s i r got = landed s i r (s.facts ++ Landed (s.name i) outcome.Got true got ∷ [])

abbrev pub LandGotKeeps : Type 0
LandGotKeeps = (votes : Votes) (s : ModelState) (i : ℕ) (r : Queued) (got : List (List ℕ)) → LandsGot s i r got → Good votes s → Good votes (with_got s i r got)
