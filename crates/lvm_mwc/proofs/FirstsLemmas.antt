-- The first element that passes a test: where it stands, and the list without it or with it changed.
use Rattle.std.proofs.Common.{◌≡◌, ◌<◌, ◌≤◌, ◌+◌, ◌||◌, not, option_map, count_by, ℕ, zero, suc, List, [], ◌∷◌, Some, None, Option, Bool, true, false, cond, nat_lt, length, get_or, set, refl, sym, ◌∙◌, ap, arith}
use Rattle.std.specs.List.{list_any, find, position, position_or_len, remove, All}
use Rattle.std.proofs.lemmas.Bool.{ltb-false, or_parts}
use Rattle.std.proofs.lemmas.List.Quantifiers.{position-Some}
use Rattle.std.proofs.lemmas.List.Sums.{fails_before_first, count_by-le-length, sum_by-cons}
use Rattle.std.proofs.lemmas.List.Elements.{All-cons, All-head, All-tail}
use Rattle.lvm_num.proofs.Booleans.{none_if}
use Rattle.lvm_mwc.specs.Firsts.{without_first, with_first}

module _ {X : Type 0} where
  -- the first that passes stands at k
  pub record IsFirstAt (p : X → Bool) (xs : List X) (d : X) (k : ℕ) : Type 0 where
    pub within : k < length xs
    pub passes : p (get_or xs k d) ≡ true
    pub any : list_any p xs ≡ true
    pub found : find p xs ≡ Some (get_or xs k d)
    pub removed : remove xs k ≡ without_first p xs
    pub changed : (f : X → X) → set xs k (f (get_or xs k d)) ≡ with_first p f xs

  first_from : (p : X → Bool) (xs : List X) (d : X) (k : ℕ) → k < length xs → p (get_or xs k d) ≡ true → ((j : ℕ) → j < k → p (get_or xs j d) ≡ false) → IsFirstAt p xs d k
  first_from p [] d k within passes before = absurd (omega arith)
  first_from p (x ∷ xs) d zero within passes before =
      let is : p x ≡ true = passes in
      record { within = within; passes = passes; any = rw is refl; found = rw is refl; removed = rw is refl; changed = λ f. rw is refl }
  first_from p (x ∷ xs) d (suc k) within passes before =
      let other : p x ≡ false = before 0 (omega arith) in
      let rest : IsFirstAt p xs d k = first_from p xs d k (omega arith) passes (λ j below. before (suc j) (omega arith)) in
      record {
        within = within;
        passes = passes;
        any = rw other rest.any;
        found = rw other rest.found;
        removed = rw other (ap (λ (l : List X). x ∷ l) rest.removed);
        changed = λ f. rw other (ap (λ (l : List X). x ∷ l) (rest.changed f));
      }

  pub first_at : (p : X → Bool) (xs : List X) (d : X) (k : ℕ) → position p xs ≡ Some k → IsFirstAt p xs d k
  first_at p xs d k is = let it = position-Some p xs k d is in first_from p xs d k it.0 it.1 it.2

  -- none passes
  pub record NonePasses (p : X → Bool) (xs : List X) : Type 0 where
    pub any : list_any p xs ≡ false
    pub found : find p xs ≡ None
    pub removed : without_first p xs ≡ xs
    pub changed : (f : X → X) → with_first p f xs ≡ xs

  pub none_passes : (p : X → Bool) (xs : List X) → list_any p xs ≡ false → NonePasses p xs
  none_passes p [] none = record { any = refl; found = refl; removed = refl; changed = λ f. refl }
  none_passes p (x ∷ xs) none =
      let both = or_parts (p x) (list_any p xs) none in
      let other : p x ≡ false = both.0 in
      let rest : NonePasses p xs = none_passes p xs both.1 in
      record {
        any = none;
        found = rw other rest.found;
        removed = rw other (ap (λ (l : List X). x ∷ l) rest.removed);
        changed = λ f. rw other (ap (λ (l : List X). x ∷ l) (rest.changed f));
      }

  no_any : (p : X → Bool) (xs : List X) → ((j : ℕ) (d : X) → j < length xs → p (get_or xs j d) ≡ false) → list_any p xs ≡ false
  no_any p [] fails = refl
  no_any p (x ∷ xs) fails =
      let other : p x ≡ false = fails 0 x (omega arith) in
      rw other (no_any p xs (λ j d below. fails (suc j) d (omega arith)))

  pub none_at : (p : X → Bool) (xs : List X) → position p xs ≡ None → NonePasses p xs
  none_at p xs is =
      let n = position_or_len p xs in
      let past : length xs ≤ n = ltb-false n (length xs) (none_if (nat_lt n (length xs)) n is) in
      none_passes p xs (no_any p xs (λ j d below. fails_before_first p xs j d (omega arith)))

  -- how many fail
  fewer : (test : Bool) (p : X → Bool) (xs : List X) → (list_any p xs ≡ true → count_by (λ x. not (p x)) xs < length xs) → (test || list_any p xs) ≡ true → cond (not test) 1 0 + count_by (λ x. not (p x)) xs < suc (length xs)
  fewer true p xs rest any = omega (arith, count_by-le-length (λ x. not (p x)) xs)
  fewer false p xs rest any = omega (arith, rest any)

  pub count_some : (p : X → Bool) (xs : List X) → list_any p xs ≡ true → count_by (λ x. not (p x)) xs < length xs
  count_some p [] any = cc
  count_some p (x ∷ xs) any = rw (sum_by-cons (λ (y : X). cond (not (p y)) 1 0) x xs) (fewer (p x) p xs (count_some p xs) any)

  pub count_none : (p : X → Bool) (xs : List X) → list_any p xs ≡ false → count_by (λ x. not (p x)) xs ≡ length xs
  count_none p [] none = refl
  count_none p (x ∷ xs) none =
      let both = or_parts (p x) (list_any p xs) none in
      let other : p x ≡ false = both.0 in
      rw (sum_by-cons (λ (y : X). cond (not (p y)) 1 0) x xs, other) (omega (arith, count_none p xs both.1))

  any_without_test : (test : Bool) (q : X → Bool) (x : X) (xs ys : List X) → q x ≡ false → list_any q xs ≡ false → list_any q ys ≡ false → list_any q (cond test xs (x ∷ ys)) ≡ false
  any_without_test true q x xs ys other rest less = rest
  any_without_test false q x xs ys other rest less = rw other less

  -- what is looked for among the others
  pub any-without : (q p : X → Bool) (xs : List X) → list_any q xs ≡ false → list_any q (without_first p xs) ≡ false
  any-without q p [] none = refl
  any-without q p (x ∷ xs) none =
      let both = or_parts (q x) (list_any q xs) none in
      any_without_test (p x) q x xs (without_first p xs) both.0 both.1 (any-without q p xs both.1)

  find_without_test : (test : Bool) (q : X → Bool) (x : X) (xs ys : List X) → (test ≡ true → q x ≡ false) → find q ys ≡ find q xs → find q (cond test xs (x ∷ ys)) ≡ find q (x ∷ xs)
  find_without_test true q x xs ys other less = rw (other refl) refl
  find_without_test false q x xs ys other less = rw less refl

  pub find-without : (q p : X → Bool) (xs : List X) → ((x : X) → p x ≡ true → q x ≡ false) → find q (without_first p xs) ≡ find q xs
  find-without q p [] other = refl
  find-without q p (x ∷ xs) other = find_without_test (p x) q x xs (without_first p xs) (other x) (find-without q p xs other)

  find_with_same : (test : Bool) (p : X → Bool) (f : X → X) (x : X) (xs : List X) → p x ≡ test → (p x ≡ true → p (f x) ≡ true) → find p (with_first p f xs) ≡ option_map f (find p xs)
      → find p (cond test (f x ∷ xs) (x ∷ with_first p f xs)) ≡ option_map f (cond test (Some x) (find p xs))
  find_with_same true p f x xs is stays rest = rw (stays is) refl
  find_with_same false p f x xs is stays rest = rw is rest

  pub find-with : (p : X → Bool) (f : X → X) (xs : List X) → ((x : X) → p x ≡ true → p (f x) ≡ true) → find p (with_first p f xs) ≡ option_map f (find p xs)
  find-with p f [] stays = refl
  find-with p f (x ∷ xs) stays = find_with_same (p x) p f x xs refl (stays x) (find-with p f xs stays)

  find_with_other : (test : Bool) (q p : X → Bool) (f : X → X) (x : X) (xs : List X) → (test ≡ true → (q x ≡ false) × (q (f x) ≡ false)) → find q (with_first p f xs) ≡ find q xs
      → find q (cond test (f x ∷ xs) (x ∷ with_first p f xs)) ≡ cond (q x) (Some x) (find q xs)
  find_with_other true q p f x xs others rest = rw ((others refl).0, (others refl).1) refl
  find_with_other false q p f x xs others rest = rw rest refl

  pub find-with_other : (q p : X → Bool) (f : X → X) (xs : List X) → ((x : X) → p x ≡ true → (q x ≡ false) × (q (f x) ≡ false)) → find q (with_first p f xs) ≡ find q xs
  find-with_other q p f [] others = refl
  find-with_other q p f (x ∷ xs) others = find_with_other (p x) q p f x xs (others x) (find-with_other q p f xs others)

  any_with_test : (test : Bool) (q p : X → Bool) (f : X → X) (x : X) (xs : List X) → q (f x) ≡ q x → list_any q (with_first p f xs) ≡ list_any q xs → list_any q (cond test (f x ∷ xs) (x ∷ with_first p f xs)) ≡ (q x || list_any q xs)
  any_with_test true q p f x xs same rest = rw same refl
  any_with_test false q p f x xs same rest = rw rest refl

  pub any-with : (q p : X → Bool) (f : X → X) (xs : List X) → ((x : X) → q (f x) ≡ q x) → list_any q (with_first p f xs) ≡ list_any q xs
  any-with q p f [] same = refl
  any-with q p f (x ∷ xs) same = any_with_test (p x) q p f x xs (same x) (any-with q p f xs same)

  length_with_test : (test : Bool) (p : X → Bool) (f : X → X) (x : X) (xs : List X) → length (with_first p f xs) ≡ length xs → length (cond test (f x ∷ xs) (x ∷ with_first p f xs)) ≡ suc (length xs)
  length_with_test true p f x xs rest = refl
  length_with_test false p f x xs rest = ap suc rest

  pub length-with : (p : X → Bool) (f : X → X) (xs : List X) → length (with_first p f xs) ≡ length xs
  length-with p f [] = refl
  length-with p f (x ∷ xs) = length_with_test (p x) p f x xs (length-with p f xs)

  pub looked_for : (p : X → Bool) (xs now : List X) (place : Option ℕ) → now ≡ xs → place ≡ position p now → position p xs ≡ place
  looked_for p xs now place is answer = ap (position p) (sym is) ∙ sym answer

  all_test : (P : X → Type 0) (test : Bool) (x : X) (xs less : List X) → P x → All P xs → All P less → All P (cond test xs (x ∷ less))
  all_test P true x xs less head rest rest_less = rest
  all_test P false x xs less head rest rest_less = All-cons P x less head rest_less

  pub All-without : (P : X → Type 0) (p : X → Bool) (xs : List X) → All P xs → All P (without_first p xs)
  All-without P p [] all = all
  All-without P p (x ∷ xs) all = all_test P (p x) x xs (without_first p xs) (All-head P x xs all) (All-tail P x xs all) (All-without P p xs (All-tail P x xs all))

  all_with_test : (P : X → Type 0) (test : Bool) (f : X → X) (x : X) (xs less : List X) → P x → P (f x) → All P xs → All P less → All P (cond test (f x ∷ xs) (x ∷ less))
  all_with_test P true f x xs less head changed rest rest_less = All-cons P (f x) xs changed rest
  all_with_test P false f x xs less head changed rest rest_less = All-cons P x less head rest_less

  pub All-with : (P : X → Type 0) (p : X → Bool) (f : X → X) (xs : List X) → ((x : X) → P x → P (f x)) → All P xs → All P (with_first p f xs)
  All-with P p f [] stays all = all
  All-with P p f (x ∷ xs) stays all = all_with_test P (p x) f x xs (with_first p f xs) (All-head P x xs all) (stays x (All-head P x xs all)) (All-tail P x xs all) (All-with P p f xs stays (All-tail P x xs all))
