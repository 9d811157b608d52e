-- The blocks of a write stand at its place of the history.
use Rattle.std.proofs.Common.{◌≡◌, ◌⊎◌, ⊎_elim, slice_set, ◌<◌, ◌≤◌, ◌+◌, ◌-◌, ℕ, zero, suc, Bool, true, false, nat_lt, List, [], ◌∷◌, Some, length, take, drop, filter, slice_get, if◌then◌else◌, refl, sym, ◌∙◌, ap, subst, arith}
use Rattle.std.specs.Prelude.{slice_index_or, replicate}
use Rattle.std.specs.List.{filter_map, sum_by}
use Rattle.std.proofs.lemmas.Bool.Decides.{nat_tests}
use Rattle.std.proofs.Math.Seq.{drop-cons}
use Rattle.std.proofs.lemmas.List.Sums.{sum_by-cons, sum_by-take-drop}
use Rattle.lvm_num.specs.Buffer.{zero_sector}
use Rattle.lvm_num.proofs.Lists.{set_here}
use Rattle.lvm_vol.specs.Facts.{Request, Fact, IsInList, begun}
use Rattle.lvm_vol.specs.Log.{asked, blocks_begun, blocks_of, got_by}
use Rattle.lvm_vol.specs.Order.{Ordered}
use Rattle.lvm_vol.proofs.LogLemmas.{find_stands}
use Rattle.lvm_vol.proofs.FactsLemmas.Order.{IdsFrom, IsNumbered, numbered, stands-at}
use Rattle.lvm_history.proofs.LogLemmas.Keeping.{blocks-back}
use Rattle.lvm_session.specs.Sound.{place_in}

-- the requests below a number are the first ones
firsts : (n m : ℕ) (rs : List Request) → IdsFrom n rs → filter (λ (s : Request). nat_lt s.id m) rs ≡ take (m - n) rs
firsts n m [] ids = none (m - n)
  where
    none : (k : ℕ) → ◌≡◌ {A = List Request} [] (take k [])
    none zero = refl
    none (suc k) = refl
firsts n m (r ∷ rs) ids = by_test (nat_lt r.id m) refl (firsts (n + 1) m rs ids.1)
  where
    by_test : (b : Bool) → nat_lt r.id m ≡ b → filter (λ (s : Request). nat_lt s.id m) rs ≡ take (m - (n + 1)) rs
        → (if b then r ∷ filter (λ (s : Request). nat_lt s.id m) rs else filter (λ (s : Request). nat_lt s.id m) rs) ≡ take (m - n) (r ∷ rs)
    by_test true is rest =
        let own = ids.0 in
        let more : m - n ≡ suc (m - (n + 1)) = grind (arith, nat_tests, is, own) in
        ap (λ (l : List Request). r ∷ l) rest ∙ ap (λ k. take k (r ∷ rs)) (sym more)
    by_test false is rest =
        let own = ids.0 in
        let here : m - n ≡ 0 = grind (arith, nat_tests, is, own) in
        let later : m - (n + 1) ≡ 0 = omega (arith, here) in
        rest ∙ ap (λ k. take k rs) later ∙ nothing rs ∙ ap (λ k. take k (r ∷ rs)) (sym here)
      where
        nothing : (l : List Request) → take 0 l ≡ []
        nothing [] = refl
        nothing (x ∷ l) = refl

nothing_there : {X : Type 0} (xs : List X) (n k m : ℕ) → length xs ≡ 0 → slice_get (take n xs) k ≡ slice_get xs m
nothing_there [] zero k m is = refl
nothing_there [] (suc n) k m is = refl
nothing_there (x ∷ xs) n k m is = absurd (omega (arith, is))

get_front : {X : Type 0} (xs : List X) (from count k : ℕ) → k < count → slice_get (take count (drop from xs)) k ≡ slice_get xs (from + k)
get_front xs zero count k less = in_front xs count k less ∙ (let same : k ≡ 0 + k = omega arith in ap (slice_get xs) same)
  where
    in_front : {X : Type 0} (xs : List X) (count k : ℕ) → k < count → slice_get (take count xs) k ≡ slice_get xs k
    in_front [] zero k less = refl
    in_front [] (suc count) k less = refl
    in_front (x ∷ xs) zero k less = absurd (omega (arith, less))
    in_front (x ∷ xs) (suc count) zero less = refl
    in_front (x ∷ xs) (suc count) (suc k) less = in_front xs count k (omega (arith, less))
get_front [] (suc from) count k less = nothing_there [] count k (suc from + k) refl
get_front (x ∷ xs) (suc from) count k less = get_front xs from count k less ∙ (let same : suc (from + k) ≡ suc from + k = omega arith in ap (slice_get (x ∷ xs)) same)

module _ (run : ℕ) (facts : List Fact) (ordered : Ordered run [] facts) (id : ℕ) (r : Request) (told : asked facts id ≡ Some r) where
  its : IsInList r (begun facts) × (r.id ≡ id)
  its = find_stands id (begun facts) r told

  all_numbered : IsNumbered run facts
  all_numbered = numbered run facts ordered

  place_is : place_in facts id ≡ sum_by (λ (s : Request). s.count) (take (r.id - 1) (begun facts))
  place_is = ap (λ n. sum_by (λ (s : Request). s.count) (filter (λ (s : Request). nat_lt s.id n) (begun facts))) (sym its.1) ∙ ap (sum_by (λ (s : Request). s.count)) (firsts 1 r.id (begun facts) all_numbered.ids)

  -- those of a write
  pub block_is : (k : ℕ) → r.write ≡ true → k < r.count → slice_get (blocks_of facts) (place_in facts id + k) ≡ slice_get r.blocks k
  block_is k writes less =
      sym (get_front (blocks_of facts) (place_in facts id) r.count k less)
      ∙ ap (λ n. slice_get (take r.count (drop n (blocks_of facts))) k) place_is
      ∙ ap (λ (l : List (List ℕ)). slice_get l k) (blocks-back run facts r all_numbered its.0 ∙ ap (λ (b : Bool). if b then r.blocks else slice_index_or (filter_map (got_by r.id) facts) 0 (replicate r.count zero_sector)) writes)

  -- and they are among those of all
  pub within : place_in facts id + r.count ≤ blocks_begun facts
  within =
      let at = stands-at 1 (begun facts) r all_numbered.ids its.0 in
      let low = at.low in
      let high = at.high in
      let front : drop (r.id - 1) (begun facts) ≡ r ∷ drop (suc (r.id - 1)) (begun facts) = drop-cons (begun facts) (r.id - 1) r (omega (arith, low, high)) ∙ ap (λ (x : Request). x ∷ drop (suc (r.id - 1)) (begun facts)) (at.here r) in
      let all = sum_by-take-drop (λ (s : Request). s.count) (begun facts) (r.id - 1) in
      let rest = ap (sum_by (λ (s : Request). s.count)) front in
      let more = sum_by-cons (λ (s : Request). s.count) r (drop (suc (r.id - 1)) (begun facts)) in
      let place = place_is in
      omega (arith, all, rest, more, place)

-- ---- one block after the other

get_other : {X : Type 0} (xs : List X) (k j : ℕ) (x : X) → j < k → slice_get (slice_set xs k x) j ≡ slice_get xs j
get_other [] k j x less = refl
get_other (y ∷ xs) zero j x less = absurd (omega (arith, less))
get_other (y ∷ xs) (suc k) zero x less = refl
get_other (y ∷ xs) (suc k) (suc j) x less = get_other xs k j x (omega (arith, less))

pub block_put : (facts : List Fact) (place k : ℕ) (sectors new : List (List ℕ)) (block : List ℕ) → new ≡ slice_set sectors k block → k < length sectors → slice_get (blocks_of facts) (place + k) ≡ Some block
    → ((j : ℕ) → j < k → slice_get sectors j ≡ slice_get (blocks_of facts) (place + j)) → (j : ℕ) → j < k + 1 → slice_get new j ≡ slice_get (blocks_of facts) (place + j)
block_put facts place k sectors new block is within its so_far j less =
    ap (λ (l : List (List ℕ)). slice_get l j) is
    ∙ ⊎_elim (λ below. get_other sectors k j block below ∙ so_far j below) (λ same. subst (λ n. slice_get (slice_set sectors k block) n ≡ slice_get (blocks_of facts) (place + n)) (sym same) (set_here sectors k block within ∙ sym its)) (below_or_last j k less)
  where
    below_or_last : (i k : ℕ) → i < k + 1 → (i < k) ⊎ (i ≡ k)
    below_or_last i k less = grind (arith)
