-- Lists and what may be there: one lemma each, for all that stand on them.
use Rattle.std.proofs.Common.{◌≡◌, Bool, ◌||◌, List, [], ◌∷◌, refl, ◌∙◌, ap, true, false, Some, if◌then◌else◌, ◌<◌, ◌+◌, not, cond, length, arith, map, ℕ, suc, get_or, ◌≤◌, sym, subst, ◌++◌, zero, slice_get, ◌⊎◌, inl, inr, slice_index_or, slice_set, replicate, append-nil, take, Option, None}
use Rattle.std.specs.List.{list_any, AllByRecursion, position_or_len, list_all, range_with_len}
use Rattle.std.specs.Prelude.{find, filter, All, AllPairs, ◌≢◌, flat_map, is_some, IsSome, IfSome, option_map}
use Rattle.std.proofs.lemmas.Bool.{or_parts, and_from}
use Rattle.std.proofs.lemmas.List.{take_more}
use Rattle.std.proofs.lemmas.List.Concat.{flat_map-append}
use Rattle.std.proofs.lemmas.List.Elements.{All-head, All-tail}

-- ---- whether one passes a test

pub any_as : {A : Type 0} (f g : A → Bool) → ((x : A) → f x ≡ g x) → (xs : List A) → list_any f xs ≡ list_any g xs
any_as f g same [] = refl
any_as f g same (x ∷ xs) = ap (λ b. b || list_any f xs) (same x) ∙ ap (λ b. g x || b) (any_as f g same xs)

pub found_any : {A : Type 0} (t : A → Bool) (xs : List A) (x : A) → find t xs ≡ Some x → list_any t xs ≡ true
found_any t [] x is = absurd (cc is)
found_any {A} t (y ∷ xs) x is = by (λ e. found_any t xs x e) (t y) is
  where
    by : (find t xs ≡ Some x → list_any t xs ≡ true) → (b : Bool) → (if b then Some y else find t xs) ≡ Some x → b || list_any t xs ≡ true
    by rest true e = refl
    by rest false e = rest e

pub none_each : {A : Type 0} (test : A → Bool) → ((x : A) → test x ≡ false) → (xs : List A) → list_any test xs ≡ false
none_each test fails [] = refl
none_each test fails (x ∷ xs) = ap (λ b. b || list_any test xs) (fails x) ∙ none_each test fails xs

pub all_false : {A : Type 0} (t : A → Bool) (xs : List A) → list_any t xs ≡ false → AllByRecursion (λ (x : A). t x ≡ false) xs
all_false t [] none = tt
all_false t (x ∷ xs) none = let it = or_parts (t x) (list_any t xs) none in (it.0, all_false t xs it.1)

pub any_within : {X : Type 0} (t : X → Bool) (rows : List X) → list_any t rows ≡ true → position_or_len t rows < length rows
any_within t [] is = absurd (cc is)
any_within t (row ∷ rows) is = by_test (λ e. any_within t rows e) (t row) is
  where
    by_test : (list_any t rows ≡ true → position_or_len t rows < length rows) → (b : Bool) → b || list_any t rows ≡ true → cond (not b) (1 + position_or_len t rows) 0 < length (row ∷ rows)
    by_test rest true e = omega arith
    by_test rest false e = let less = rest e in omega (arith, less)

pub any_map : {X Y : Type 0} (p : Y → Bool) (f : X → Y) (xs : List X) → list_any p (map f xs) ≡ list_any (λ x. p (f x)) xs
any_map p f [] = refl
any_map p f (x ∷ xs) = ap (λ (t : Bool). p (f x) || t) (any_map p f xs)

pub all_passed : {X : Type 0} (test : X → Bool) (xs : List X) → ((k : ℕ) (d : X) → k < length xs → test (get_or xs k d) ≡ true) → list_all test xs ≡ true
all_passed test [] each = refl
all_passed test (x ∷ xs) each = and_from (test x) (list_all test xs) (each 0 x (omega arith)) (all_passed test xs (λ k d lt. each (suc k) d (omega arith)))

-- ---- those that pass

pub few_filter : {X : Type 0} (p : X → Bool) (xs : List X) → length (filter p xs) ≤ length xs
few_filter p [] = omega arith
few_filter {X} p (x ∷ xs) = by_test (p x) (few_filter p xs)
  where
    by_test : (b : Bool) → length (filter p xs) ≤ length xs → length (cond b (x ∷ filter p xs) (filter p xs)) ≤ length (x ∷ xs)
    by_test true le = omega arith
    by_test false le = omega arith

-- ---- what holds of all

pub all_weaker : {X : Type 0} (P R : X → Type 0) → ((x : X) → P x → R x) → (xs : List X) → AllByRecursion P xs → AllByRecursion R xs
all_weaker P R f [] p = tt
all_weaker P R f (x ∷ xs) p = (f x p.0, all_weaker P R f xs p.1)

pub all_two : {X : Type 0} (P Q R : X → Type 0) → ((x : X) → P x → Q x → R x) → (xs : List X) → AllByRecursion P xs → AllByRecursion Q xs → AllByRecursion R xs
all_two P Q R f [] p q = tt
all_two P Q R f (x ∷ xs) p q = (f x p.0 q.0, all_two P Q R f xs p.1 q.1)

pub all_both : {A : Type 0} (P Q : A → Type 0) (xs : List A) → AllByRecursion P xs → AllByRecursion Q xs → AllByRecursion (λ (x : A). P x × Q x) xs
all_both P Q [] one two = tt
all_both P Q (x ∷ xs) one two = ((one.0, two.0), all_both P Q xs one.1 two.1)

pub all_of_none : {A : Type 0} (P : A → Type 0) (xs : List A) → xs ≡ [] → AllByRecursion P xs
all_of_none P xs empty = subst (AllByRecursion P) (sym empty) tt

pub all_push : {A : Type 0} (P : A → Type 0) (xs : List A) (y : A) → AllByRecursion P xs → P y → AllByRecursion P (xs ++ y ∷ [])
all_push P [] y all its = (its, tt)
all_push P (x ∷ xs) y all its = (all.0, all_push P xs y all.1 its)

pub all_at : {A : Type 0} (P : A → Type 0) (xs : List A) (k : ℕ) (x : A) → AllByRecursion P xs → slice_get xs k ≡ Some x → P x
all_at P [] k x all there = absurd (cc there)
all_at P (y ∷ xs) zero x all there = let same : y ≡ x = cc there in subst P same all.0
all_at P (y ∷ xs) (suc k) x all there = all_at P xs k x all.1 there

pub by_place : {A : Type 0} (P : A → Type 0) (xs : List A) → All P xs → AllByRecursion P xs
by_place P [] all = tt
by_place P (x ∷ xs) all = (All-head P x xs all, by_place P xs (All-tail P x xs all))

-- ---- pairs

pub pairs_head : {X : Type 0} (R : X → X → Type 0) (x : X) (xs : List X) → AllPairs R (x ∷ xs) → All (R x) xs
pairs_head R x xs pairs k d lt = pairs 0 (suc k) d (omega arith) (omega (arith, lt))

pub pairs_tail : {X : Type 0} (R : X → X → Type 0) (x : X) (xs : List X) → AllPairs R (x ∷ xs) → AllPairs R xs
pairs_tail R x xs pairs i j d less lt = pairs (suc i) (suc j) d (omega (arith, less)) (omega (arith, lt))

-- ---- an empty list

pub not_nil : {X : Type 0} (xs : List X) (x : X) → xs ++ x ∷ [] ≡ [] → ⊥
not_nil [] x is = cc
not_nil (y ∷ ys) x is = cc

pub none_or_some : {X : Type 0} (xs : List X) → (xs ≡ []) ⊎ (xs ≢ [])
none_or_some [] = inl refl
none_or_some (x ∷ xs) = inr (λ none. cc none)

-- ---- the item at a place

pub index_is : {X : Type 0} (l : List X) (k : ℕ) (x d : X) → slice_get l k ≡ Some x → slice_index_or l k d ≡ x
index_is [] k x d is = absurd (cc (is))
index_is (y ∷ l) zero x d is = cc (is)
index_is (y ∷ l) (suc k) x d is = index_is l k x d is

pub length_set : {X : Type 0} (xs : List X) (k : ℕ) (x : X) → length (slice_set xs k x) ≡ length xs
length_set [] k x = refl
length_set (y ∷ xs) zero x = refl
length_set (y ∷ xs) (suc k) x = ap suc (length_set xs k x)

pub set_here : {X : Type 0} (xs : List X) (k : ℕ) (x : X) → k < length xs → slice_get (slice_set xs k x) k ≡ Some x
set_here [] k x lt = absurd (omega arith)
set_here (y ∷ ys) zero x lt = refl
set_here (y ∷ ys) (suc k) x lt = set_here ys k x (omega arith)

pub set_beside : {X : Type 0} (xs : List X) (k j : ℕ) (x : X) → (j ≡ k → ⊥) → slice_get (slice_set xs k x) j ≡ slice_get xs j
set_beside [] k j x not = refl
set_beside (y ∷ ys) zero zero x not = absurd (not refl)
set_beside (y ∷ ys) zero (suc j) x not = refl
set_beside (y ∷ ys) (suc k) zero x not = refl
set_beside (y ∷ ys) (suc k) (suc j) x not = set_beside ys k j x (λ e. not (omega arith))

-- ---- marks

pub at_set : (pool : List Bool) (n : ℕ) → slice_index_or (slice_set pool n false) n false ≡ false
at_set [] n = refl
at_set (b ∷ pool) zero = refl
at_set (b ∷ pool) (suc n) = at_set pool n

pub beside_set : (pool : List Bool) (k n : ℕ) → (n ≡ k → ⊥) → slice_index_or (slice_set pool k false) n false ≡ slice_index_or pool n false
beside_set [] k n other = refl
beside_set (b ∷ pool) zero zero other = absurd (other refl)
beside_set (b ∷ pool) zero (suc n) other = refl
beside_set (b ∷ pool) (suc k) zero other = refl
beside_set (b ∷ pool) (suc k) (suc n) other = beside_set pool k n (λ e. other (ap suc e))

pub none_out : (count n : ℕ) → slice_index_or (replicate count false) n false ≡ false
none_out zero n = refl
none_out (suc count) zero = refl
none_out (suc count) (suc n) = none_out count n

pub all_back : (pool : List Bool) → ((n : ℕ) → slice_index_or pool n false ≡ false) → pool ≡ replicate (length pool) false
all_back [] none = refl
all_back (b ∷ pool) none = ap (λ (x : Bool). x ∷ pool) (none zero) ∙ ap (λ (xs : List Bool). false ∷ xs) (all_back pool (λ n. none (suc n)))

-- ---- lists in parts

pub range_next : (a n : ℕ) → range_with_len a (suc n) ≡ range_with_len a n ++ (a + n) ∷ []
range_next a zero = let e : a + 0 ≡ a = omega arith in ap (λ (x : ℕ). x ∷ []) (sym e)
range_next a (suc n) = let e : (a + 1) + n ≡ a + suc n = omega arith in ap (λ (l : List ℕ). a ∷ l) (range_next (a + 1) n ∙ ap (λ (x : ℕ). range_with_len (a + 1) n ++ x ∷ []) e)

pub pieces-more : {X : Type 0} (f : X → List ℕ) (xs : List X) (k : ℕ) (d : X) → k < length xs → flat_map f (take (k + 1) xs) ≡ flat_map f (take k xs) ++ f (get_or xs k d)
pieces-more f xs k d lt =
    ap (flat_map f) (take_more xs k d lt) ∙ flat_map-append f (take k xs) (get_or xs k d ∷ []) ∙ ap (λ (l : List ℕ). flat_map f (take k xs) ++ l) (append-nil (f (get_or xs k d)))

-- ---- what may be there

pub none_there : {A : Type 0} (x : Option A) → is_some x ≡ false → x ≡ None
none_there None is = refl
none_there (Some a) is = absurd (cc is)

pub some_told : {X : Type 0} (o : Option X) → IsSome o → (x : X) × (o ≡ Some x)
some_told (Some x) some = (x, refl)
some_told None some = absurd (cc (some))

pub of_told : {A : Type 0} (P : A → Type 0) (o : Option A) (x : A) → o ≡ Some x → IfSome o P → P x
of_told {A = A} P o x told holds = subst (λ (o : Option A). IfSome o P) told holds

pub if_none : {A : Type 0} (P : A → Type 0) (m : Option A) → m ≡ None → IfSome m P
if_none P m none = subst (λ n. IfSome n P) (sym none) tt

pub some_map : {X Y : Type 0} (f : X → Y) (o : Option X) (y : Y) → option_map f o ≡ Some y → (x : X) × (o ≡ Some x) × (f x ≡ y)
some_map f None y is = absurd cc
some_map f (Some x) y is = (x, refl, cc)
