-- Entries of a history are counted.
use Rattle.std.proofs.Common.{◌≡◌, ◌≤◌, ◌+◌, ℕ, suc, Bool, true, false, cond, List, [], ◌∷◌, Some, length, drop, refl, ap, ◌∙◌, arith}
use Rattle.std.specs.Prelude.{count_by, slice_get}
use Rattle.std.proofs.lemmas.List.{at_drop_all}
use Rattle.std.proofs.lemmas.List.Sums.{sum_by-drop_more}
use Rattle.std.proofs.lemmas.Option.{get_or_from_slice_get, slice_get_within}
use Rattle.lvm_vol.specs.Facts.{Fact}
use Rattle.lvm_vol.specs.Log.{entries_from, place_after}

pub entries_long : (place : ℕ) (facts : List Fact) → length (entries_from place facts) ≡ length facts
entries_long place [] = refl
entries_long place (f ∷ facts) = ap (λ n. suc n) (entries_long (place_after place f) facts)

module _ {X : Type 0} (p : X → Bool) (xs : List X) where
  one_more : (k : ℕ) (x : X) → slice_get xs k ≡ Some x → count_by p (drop k xs) ≡ cond (p x) 1 0 + count_by p (drop (k + 1) xs)
  one_more k x is = sum_by-drop_more (λ y. cond (p y) 1 0) xs k x (slice_get_within xs k x is) ∙ ap (λ y. cond (p y) 1 0 + count_by p (drop (k + 1) xs)) (get_or_from_slice_get xs k x x is)

  none_more : (k : ℕ) → length xs ≤ k → count_by p (drop k xs) ≡ 0
  none_more k past = at_drop_all (count_by p) xs k past

  -- so many were found, from an index on, among those before another
  pub record Counts (from k n : ℕ) : Type 0 where
    pub so_far : n + count_by p (drop k xs) ≡ count_by p (drop from xs)
    pub few : n + from ≤ k

  pub counts_first : (from : ℕ) → Counts from from 0
  counts_first from = record { so_far = omega arith; few = omega arith }

  module _ (from k n : ℕ) (so_far : Counts from k n) (x : X) (is : slice_get xs k ≡ Some x) where
    counts_by : (b : Bool) → p x ≡ b → Counts from (k + 1) (cond b (n + 1) n)
    counts_by true found =
        let more = one_more k x is in
        let one : ◌≡◌ {A = ℕ} (cond (p x) 1 0) 1 = ap {B = ℕ} (λ b. cond b 1 0) found in
        let before = so_far.so_far in
        record { so_far = omega (arith, more, one, before); few = omega (arith, so_far.few) }
    counts_by false missed =
        let more = one_more k x is in
        let none : ◌≡◌ {A = ℕ} (cond (p x) 1 0) 0 = ap {B = ℕ} (λ b. cond b 1 0) missed in
        let before = so_far.so_far in
        record { so_far = omega (arith, more, none, before); few = omega (arith, so_far.few) }

    pub counts_next : Counts from (k + 1) (cond (p x) (n + 1) n)
    counts_next = counts_by (p x) refl

  pub counts_all : (from k n : ℕ) → Counts from k n → length xs ≤ k → n ≡ count_by p (drop from xs)
  counts_all from k n so_far past = let before = so_far.so_far in omega (arith, before, none_more k past)
