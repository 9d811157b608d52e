-- A request begins.
use Rattle.std.specs.Prelude.{◌≡◌, ℕ, ◌+◌, ◌<◌, [], ◌∷◌, ◌++◌, Some, IsTrue, IsFalse, count_by}
use Rattle.lvm_num.specs.declared.place.Pp.{Pp}
use Rattle.lvm_num.specs.Geometry.{track_group_of}
use Rattle.lvm_vol.specs.Facts.{Request, Begun}
use Rattle.lvm_vol.specs.Legal.{begins_in}
use Rattle.lvm_invariant.specs.Found.{Votes}
use Rattle.lvm_invariant.specs.Told.{IsRequestOf}
use Rattle.lvm_invariant.specs.Updates.{put, with_name}
use Rattle.lvm_invariant.specs.State.{Held, Queued, ModelState, covers}
use Rattle.lvm_invariant.specs.Good.{Good}

-- a request goes over blocks of one track group of one logical partition
pub record IsPlaced (s : ModelState) (r : Queued) : Type 0 where
  pub place : (lv b : ℕ) → IsTrue (covers r lv b) → (lv ≡ r.lv) × (track_group_of b ≡ track_group_of r.first) × (s.is_copy r.lv b ≡ s.is_copy r.lv r.first)
  pub inside : (lv b : ℕ) → IsTrue (covers r lv b) → (c : Pp) × IsTrue (s.is_copy lv b c)

-- it waits in the last place of the queue, and has the next number of its run
pub record Submits (s : ModelState) (i : ℕ) (q : Request) (r : Queued) : Type 0 where
  pub held : r.phase ≡ Held
  pub newest : (j : ℕ) (e : Queued) → s.queue j ≡ Some e → j < i
  pub placed : IsPlaced s r
  pub request : IsFalse r.step
  pub same : IsRequestOf q r
  pub next : q.id ≡ count_by (begins_in q.run) s.facts + 1

abbrev pub submitted : ModelState → ℕ → Request → Queued → ModelState
submitted s i q r = record s { queue = put s.queue i r; facts = s.facts ++ Begun q ∷ []; name = with_name s.name i q }

abbrev pub SubmitKeeps : Type 0
SubmitKeeps = (votes : Votes) (s : ModelState) (i : ℕ) (q : Request) (r : Queued) → Submits s i q r → Good votes s → Good votes (submitted s i q r)
