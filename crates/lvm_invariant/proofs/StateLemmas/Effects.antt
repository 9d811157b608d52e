-- What an event makes of what is known of each block, as the lemmas use it.
use Rattle.std.specs.Prelude.{◌≡◌, ◌⊎◌, ℕ, ◌<◌, ◌==◌, List, [], ◌∷◌, Some, IsTrue, IsFalse}
use Rattle.lvm_num.specs.declared.place.Pp.{Pp}
use Rattle.lvm_num.specs.Geometry.{track_group_of}
use Rattle.lvm_vol.specs.May.{IsValue, known}
use Rattle.lvm_invariant.specs.State.{write_of, Groups, Stage, Well, Held, Going, Queued, ModelState, covers, request_of, has_landed, is_past, is_pinning, Started, told}
use Rattle.lvm_invariant.specs.Sound.{the_write}
use Rattle.lvm_vol.specs.declared.entry.Vol.TheVariants.{Lv}
use Rattle.lvm_vol.specs.Facts.{Fact, Request}
use Rattle.lvm_invariant.specs.LandDone.{IsDropped}

-- what landing changes of what is known: nothing where the request doesn't go, and at the others no mode
pub record ClosesOnly (s : ModelState) (i : ℕ) (r : Queued) (facts : List Fact) : Type 0 where
  pub outside : (lv b : ℕ) → IsFalse (covers r lv b) → known facts (Lv lv) b ≡ told s lv b
  pub modes : (lv b : ℕ) → (known facts (Lv lv) b).mode ≡ (told s lv b).mode
  pub tight : (lv b : ℕ) (c : Pp) → IsTrue (s.is_copy lv b c) → IsTrue (s.is_active lv) ⊎ IsTrue (s.is_passive lv) → IsFalse (known facts (Lv lv) b).loose
  -- the other open writes stay
  pub others : (lv b j : ℕ) (e : Queued) → s.queue j ≡ Some e → IsTrue e.write → IsFalse (j == i) → write_of b (known facts (Lv lv) b) (request_of s j) ≡ write_of b (told s lv b) (request_of s j)

-- a write lands as Done once each of its targets has succeeded or is stale by what is committed and under way
pub record DoneEffect (s : ModelState) (i : ℕ) (r : Queued) (facts : List Fact) : Type 0 where
  pub started : Started s i r
  pub ended : (c : Pp) (stage : Stage) → r.targets c ≡ Some stage → (stage ≡ Well) ⊎ IsDropped s r c
  pub closes : ClosesOnly s i r facts
  pub may : (lv b : ℕ) → IsTrue (covers r lv b) → (known facts (Lv lv) b).values ≡ Some (r.value b ∷ [])

-- a write lands as Lost once each of its targets but one is stale by what is committed and under way
pub record LostEffect (s : ModelState) (i : ℕ) (r : Queued) (facts : List Fact) : Type 0 where
  pub started : Started s i r
  pub kept : Pp
  pub ended : (c : Pp) (stage : Stage) → r.targets c ≡ Some stage → (c ≡ kept) ⊎ IsDropped s r c
  pub closes : ClosesOnly s i r facts
  pub may : (lv b : ℕ) → IsTrue (covers r lv b) → (value : List ℕ) → IsValue (told s lv b) value ⊎ (((values : List (List ℕ)) × ((told s lv b).values ≡ Some values)) × (value ≡ r.value b)) → IsValue (known facts (Lv lv) b) value

-- A request that isn't a write under way changes: it is pinned, a read starts or ends a transfer, or it lands without a value.
pub record ChangeEffect (s : ModelState) (i : ℕ) (r n : Queued) (facts : List Fact) (cache : Groups) : Type 0 where
  pub there : s.queue i ≡ Some r
  pub calm : IsTrue r.write → r.phase ≡ Going → ⊥
  pub calm_now : IsTrue n.write → n.phase ≡ Going → ⊥
  pub may : (lv b : ℕ) → (known facts (Lv lv) b).values ≡ (told s lv b).values
  pub loose : (lv b : ℕ) → (known facts (Lv lv) b).loose ≡ (told s lv b).loose
  pub modes : (lv b : ℕ) → (known facts (Lv lv) b).mode ≡ (told s lv b).mode
  pub writes : (lv b j : ℕ) (e : Queued) → s.queue j ≡ Some e → IsTrue e.write → IsFalse (j == i) ⊎ IsFalse (has_landed n.phase) → write_of b (known facts (Lv lv) b) (request_of s j) ≡ write_of b (told s lv b) (request_of s j)
  -- what a read gets is what one of its copies holds
  pub got : (value : ℕ → List ℕ) → n.got ≡ Some value → (r.got ≡ Some value) ⊎ ((lv b : ℕ) → IsTrue (covers n lv b) → (c : Pp) × (x : Stage) × (r.targets c ≡ Some x) × (value b ≡ s.media.block lv b c))
  pub pinning : IsTrue n.write → IsTrue (is_pinning n.phase) → IsTrue (s.is_active n.lv) → IsTrue n.several → IsTrue (is_pinning r.phase) ⊎ IsTrue (cache n.lv (track_group_of n.first))
  pub cache_keeps : (j : ℕ) (e : Queued) → s.queue j ≡ Some e → IsTrue e.write → IsTrue (is_pinning e.phase) → IsTrue (s.is_active e.lv) → IsTrue e.several → IsTrue (s.cache e.lv (track_group_of e.first)) → IsTrue (cache e.lv (track_group_of e.first))

-- a read lands with what it got
pub record GotEffect (s : ModelState) (i : ℕ) (r : Queued) (value : ℕ → List ℕ) (facts : List Fact) : Type 0 where
  pub there : s.queue i ≡ Some r
  pub read : IsFalse r.write
  pub past : IsTrue (is_past r.phase)
  pub got : r.got ≡ Some value
  pub closes : ClosesOnly s i r facts
  pub loose : (lv b : ℕ) → IsTrue (told s lv b).loose → known facts (Lv lv) b ≡ told s lv b
  pub tight : (lv b : ℕ) → IsTrue (covers r lv b) → IsFalse (told s lv b).loose → (known facts (Lv lv) b).values ≡ Some (value b ∷ [])

-- a request begins
pub record JoinEffect (s : ModelState) (i : ℕ) (q : Request) (r : Queued) (facts : List Fact) : Type 0 where
  pub held : r.phase ≡ Held
  pub newest : (j : ℕ) (e : Queued) → s.queue j ≡ Some e → j < i
  pub may : (lv b : ℕ) → (known facts (Lv lv) b).values ≡ (told s lv b).values
  pub loose : (lv b : ℕ) → (known facts (Lv lv) b).loose ≡ (told s lv b).loose
  pub modes : (lv b : ℕ) → (known facts (Lv lv) b).mode ≡ (told s lv b).mode
  pub own : IsTrue r.write → (lv b : ℕ) → write_of b (known facts (Lv lv) b) q ≡ the_write r lv b
  pub others : (lv b j : ℕ) (e : Queued) → s.queue j ≡ Some e → IsTrue e.write → IsFalse (j == i) → write_of b (known facts (Lv lv) b) (request_of s j) ≡ write_of b (told s lv b) (request_of s j)
  pub place : (lv b : ℕ) → IsTrue (covers r lv b) → (lv ≡ r.lv) × (track_group_of b ≡ track_group_of r.first) × (s.is_copy r.lv b ≡ s.is_copy r.lv r.first)
  pub inside : (lv b : ℕ) → IsTrue (covers r lv b) → (c : Pp) × IsTrue (s.is_copy lv b c)
