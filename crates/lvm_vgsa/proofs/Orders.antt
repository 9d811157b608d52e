-- Lists of values that each have a property, in a strict order: what one more value at the end adds.
use Rattle.std.proofs.Common.{◌≡◌, ℕ, zero, suc, ◌<◌, Bool, true, List, [], ◌∷◌, ◌++◌, length, get_or, refl, subst, arith, length-append}
use Rattle.std.specs.Prelude.{All, AllPairs}
use Rattle.std.specs.List.{list_all}
use Rattle.std.proofs.lemmas.Bool.{and_parts}
use Rattle.std.proofs.lemmas.List.{get_or_at, get_or_append_left}
use Rattle.std.proofs.lemmas.List.Elements.{All-push}
use Rattle.std.proofs.lemmas.List.Quantifiers.{all_pairs_push}
use Rattle.lvm_num.proofs.Lists.{all_passed}

-- each has the property, and each is before all behind it
pub record InOrder (X : Type 0) (P : X → Type 0) (R : X → X → Type 0) (xs : List X) : Type 0 where
  pub each : All P xs
  pub ordered : AllPairs R xs

passed_at : {X : Type 0} (test : X → Bool) (xs : List X) (k : ℕ) (d : X) → list_all test xs ≡ true → k < length xs → test (get_or xs k d) ≡ true
passed_at test [] k d all lt = absurd (omega (arith, lt))
passed_at test (x ∷ xs) zero d all lt = (and_parts (test x) (list_all test xs) all).0
passed_at test (x ∷ xs) (suc k) d all lt = passed_at test xs k d (and_parts (test x) (list_all test xs) all).1 (omega (arith, lt))

pub order_push : (X : Type 0) (P : X → Type 0) (R : X → X → Type 0) (before : X → X → Bool) → ((a b : X) → before a b ≡ true → R a b) → (xs : List X) (x : X) → InOrder X P R xs → P x
    → list_all (λ y. before y x) xs ≡ true → InOrder X P R (xs ++ x ∷ [])
order_push X P R before means xs x good this behind = record {
  each = All-push P xs x good.each this;
  ordered = all_pairs_push R xs x good.ordered (λ k d lt. means (get_or xs k d) x (passed_at (λ y. before y x) xs k d behind lt));
}

pub order_front : (X : Type 0) (P : X → Type 0) (R : X → X → Type 0) (xs ys : List X) → InOrder X P R (xs ++ ys) → InOrder X P R xs
order_front X P R xs ys good =
    let size = length-append xs ys in
    record {
      each = λ k d lt. subst P (get_or_append_left xs ys d k lt) (good.each k d (omega arith));
      ordered = λ i j d less lt.
          subst (λ (a : X). R a (get_or xs j d)) (get_or_append_left xs ys d i (omega arith))
          (subst (λ (b : X). R (get_or (xs ++ ys) i d) b) (get_or_append_left xs ys d j lt) (good.ordered i j d less (omega arith)));
    }

pub order_last : (X : Type 0) (P : X → Type 0) (R : X → X → Type 0) (xs : List X) (x : X) → InOrder X P R (xs ++ x ∷ []) → P x
order_last X P R xs x good =
    let size = length-append xs (x ∷ []) in
    subst P (get_or_at xs x [] x (length xs) refl) (good.each (length xs) x (omega arith))

pub order_behind : (X : Type 0) (P : X → Type 0) (R : X → X → Type 0) (before : X → X → Bool) → ((a b : X) → R a b → before a b ≡ true) → (xs : List X) (x : X) → InOrder X P R (xs ++ x ∷ [])
    → list_all (λ y. before y x) xs ≡ true
order_behind X P R before means xs x good =
    let size = length-append xs (x ∷ []) in
    all_passed (λ y. before y x) xs (λ k d lt.
    means (get_or xs k d) x
    (subst (λ (a : X). R a x) (get_or_append_left xs (x ∷ []) d k lt)
    (subst (λ (b : X). R (get_or (xs ++ x ∷ []) k d) b) (get_or_at xs x [] d (length xs) refl) (good.ordered k (length xs) d lt (omega arith)))))
