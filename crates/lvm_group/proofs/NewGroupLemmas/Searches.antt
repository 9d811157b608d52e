-- What searches, maps and filters of lists of disks tell.
use Rattle.std.proofs.Common.{◌≡◌, ℕ, zero, suc, ◌+◌, ◌<◌, ◌≤◌, Bool, true, false, cond, ◌&&◌, ◌||◌, List, [], ◌∷◌, ◌++◌, length, get_or, Some, None, refl, ap, ◌∙◌, arith}
use Rattle.std.specs.Prelude.{◌==◌, map, filter, find, All, AllPairs}
use Rattle.std.specs.List.{list_any, range_with_len}
use Rattle.std.proofs.lemmas.Bool.{eqb-true, eq-eqb}
use Rattle.std.proofs.lemmas.List.{map-append, append-nil}
use Rattle.std.proofs.lemmas.List.Elements.{filter-append}
use Rattle.std.proofs.lemmas.List.FromFn.{get_or-range_with_len, length-range_with_len}
use Rattle.std.proofs.lemmas.List.Folds.{list_any_at}
use Rattle.std.proofs.lemmas.Map.Views.{any-filter_same}
use Rattle.lvm_num.proofs.Lists.{range_next}
use Rattle.lvm_group.specs.NewGroup.{clear_row, disks_in_order}

-- ---- searches

after_none : {X : Type 0} (p : X → Bool) (x : X) (xs : List X) (t : Bool) → p x ≡ t → cond t (Some x) (find p xs) ≡ None
    → (find p xs ≡ None → (k : ℕ) (d : X) → k < length xs → p (get_or xs k d) ≡ false) → (k : ℕ) (d : X) → k < length (x ∷ xs) → p (get_or (x ∷ xs) k d) ≡ false
after_none p x xs true is none rest k d lt = absurd cc
after_none p x xs false is none rest zero d lt = is
after_none p x xs false is none rest (suc k) d lt = rest none k d (omega (arith, lt))

-- no element passes a test for which none is found
pub none_found : {X : Type 0} (p : X → Bool) (xs : List X) → find p xs ≡ None → (k : ℕ) (d : X) → k < length xs → p (get_or xs k d) ≡ false
none_found p [] none k d lt = absurd (omega (arith, lt))
none_found {X} p (x ∷ xs) none k d lt = after_none p x xs (p x) refl none (λ n k d lt. none_found p xs n k d lt) k d lt

-- ---- tests through maps and filters

pub any_map : {X Y : Type 0} (f : X → Y) (p : Y → Bool) (xs : List X) → list_any p (map f xs) ≡ list_any (λ x. p (f x)) xs
any_map f p [] = refl
any_map f p (x ∷ xs) = ap (λ b. p (f x) || b) (any_map f p xs)

-- a disk passes a filter where it is there and passes the test
pub any_filter : (p : ℕ → Bool) (disk : ℕ) (xs : List ℕ) → list_any (λ e. e == disk) (filter p xs) ≡ (p disk && list_any (λ e. e == disk) xs)
any_filter p disk xs = any-filter_same (λ e. e == disk) p (p disk) (λ k is. ap p (eqb-true k disk is)) xs

-- ---- disks by their numbers

pub at_range : (n i : ℕ) → i < n → get_or (range_with_len 0 n) i 0 ≡ i
at_range n i lt = let e = get_or-range_with_len 0 n i 0 lt in omega (arith, e)

pub in_range : (n disk : ℕ) → disk < n → list_any (λ e. e == disk) (range_with_len 0 n) ≡ true
in_range n disk lt = list_any_at (λ e. e == disk) (range_with_len 0 n) disk 0 (omega (arith, lt, length-range_with_len 0 n)) (eq-eqb _ disk (at_range n disk lt))

pub range_rises : (n : ℕ) → AllPairs (λ a b. a < b) (range_with_len 0 n)
range_rises n i j d less lt =
    let all : length (range_with_len 0 n) ≡ n = length-range_with_len 0 n in
    let first : get_or (range_with_len 0 n) i d ≡ 0 + i = get_or-range_with_len 0 n i d (omega (arith, less, lt, all)) in
    let second : get_or (range_with_len 0 n) j d ≡ 0 + j = get_or-range_with_len 0 n j d (omega (arith, lt, all)) in
    omega (arith, first, second, less)

pub range_below : (n : ℕ) → All (λ e. e < n) (range_with_len 0 n)
range_below n k d lt =
    let all : length (range_with_len 0 n) ≡ n = length-range_with_len 0 n in
    let is : get_or (range_with_len 0 n) k d ≡ 0 + k = get_or-range_with_len 0 n k d (omega (arith, lt, all)) in
    omega (arith, is, lt, all)

-- ---- how many pass a filter

filter_no : (p : ℕ → Bool) (x : ℕ) (xs : List ℕ) (t : Bool) → p x ≡ t → length (cond t (x ∷ filter p xs) (filter p xs)) ≤ length (filter p xs) + 1
filter_no p x xs true is = omega arith
filter_no p x xs false is = omega arith

either_one : (x : ℕ) (a b c : List ℕ) (s t : Bool) → length c ≤ length a + length b → length (cond (s || t) (x ∷ c) c) ≤ length (cond s (x ∷ a) a) + length (cond t (x ∷ b) b)
either_one x a b c true true le = omega (arith, le)
either_one x a b c true false le = omega (arith, le)
either_one x a b c false true le = omega (arith, le)
either_one x a b c false false le = le

-- those that pass one of two tests are no more than pass the one and pass the other
pub filter_either : (p q : ℕ → Bool) (xs : List ℕ) → length (filter (λ e. p e || q e) xs) ≤ length (filter p xs) + length (filter q xs)
filter_either p q [] = omega arith
filter_either p q (x ∷ xs) = either_one x (filter p xs) (filter q xs) (filter (λ e. p e || q e) xs) (p x) (q x) (filter_either p q xs)

none_of_later : (disk a n : ℕ) → disk < a → length (filter (λ e. disk == e) (range_with_len a n)) ≡ 0
none_of_later disk a zero lt = refl
none_of_later disk a (suc n) lt = by_test (none_of_later disk (a + 1) n (omega (arith, lt))) (disk == a) refl
  where
    by_test : length (filter (λ e. disk == e) (range_with_len (a + 1) n)) ≡ 0 → (t : Bool) → disk == a ≡ t → length (cond t (a ∷ filter (λ e. disk == e) (range_with_len (a + 1) n)) (filter (λ e. disk == e) (range_with_len (a + 1) n))) ≡ 0
    by_test rest true is = let e = eqb-true disk a is in absurd (omega (arith, e, lt))
    by_test rest false is = rest

-- of numbers that rise just one is a disk
one_at_most : (disk a n : ℕ) → length (filter (λ e. disk == e) (range_with_len a n)) ≤ 1
one_at_most disk a zero = omega arith
one_at_most disk a (suc n) = by_test (one_at_most disk (a + 1) n) (disk == a) refl
  where
    by_test : length (filter (λ e. disk == e) (range_with_len (a + 1) n)) ≤ 1 → (t : Bool) → disk == a ≡ t → length (cond t (a ∷ filter (λ e. disk == e) (range_with_len (a + 1) n)) (filter (λ e. disk == e) (range_with_len (a + 1) n))) ≤ 1
    by_test rest true is = let e = eqb-true disk a is in let none = none_of_later disk (a + 1) n (omega (arith, e)) in omega (arith, none)
    by_test rest false is = rest

none_kept : (xs : List ℕ) → length (filter (λ e. false) xs) ≡ 0
none_kept [] = refl
none_kept (x ∷ xs) = none_kept xs

-- of the numbers those that are among some disks are no more than these
pub few_among : (disks : List ℕ) (n : ℕ) → length (filter (λ e. list_any (λ d. d == e) disks) (range_with_len 0 n)) ≤ length disks
few_among [] n = let none = none_kept (range_with_len 0 n) in omega (arith, none)
few_among (x ∷ disks) n =
    let both = filter_either (λ e. x == e) (λ e. list_any (λ d. d == e) disks) (range_with_len 0 n) in
    let one = one_at_most x 0 n in
    let rest = few_among disks n in
    omega (arith, both, one, rest)

-- ---- what a search finds

pub found_at : (p : ℕ → Bool) (xs : List ℕ) (i : ℕ) → ((k : ℕ) → k < i → p (get_or xs k 0) ≡ false) → i < length xs → p (get_or xs i 0) ≡ true → find p xs ≡ Some (get_or xs i 0)
found_at p [] i none lt is = absurd (omega (arith, lt))
found_at p (x ∷ xs) zero none lt is = ap (λ b. cond b (Some x) (find p xs)) is
found_at p (x ∷ xs) (suc i) none lt is = ap (λ b. cond b (Some x) (find p xs)) (none 0 (omega arith)) ∙ found_at p xs i (λ k less. none (suc k) (omega (arith, less))) (omega (arith, lt)) is

pub found_none : (p : ℕ → Bool) (xs : List ℕ) → ((k : ℕ) → k < length xs → p (get_or xs k 0) ≡ false) → find p xs ≡ None
found_none p [] none = refl
found_none p (x ∷ xs) none = ap (λ b. cond b (Some x) (find p xs)) (none 0 (omega arith)) ∙ found_none p xs (λ k less. none (suc k) (omega (arith, less)))

-- ---- all disks in order

pub in_order : (disk : ℕ) → disk < 128 → list_any (λ e. e == disk) disks_in_order ≡ true
unfolding disks_in_order
in_order disk lt = in_range 128 disk lt

pub order_rises : AllPairs (λ a b. a < b) disks_in_order
unfolding disks_in_order
order_rises = range_rises 128

pub order_below : All (λ e. e < 128) disks_in_order
unfolding disks_in_order
order_below = range_below 128

pub few_in_order : (disks : List ℕ) → length (filter (λ e. list_any (λ d. d == e) disks) disks_in_order) ≤ length disks
unfolding disks_in_order
few_in_order disks = few_among disks 128

pub all_in_order : (n : ℕ) → n ≡ 128 → range_with_len 0 n ≡ disks_in_order
unfolding disks_in_order
all_in_order n is = ap (range_with_len 0) is

-- ---- a range and the number behind it

pub range_more : (n : ℕ) → range_with_len 0 (n + 1) ≡ range_with_len 0 n ++ n ∷ []
range_more n = ap (range_with_len 0) (one_more n) ∙ range_next 0 n ∙ ap (λ (x : ℕ). range_with_len 0 n ++ x ∷ []) (none_less n)
  where
    one_more : (n : ℕ) → ◌≡◌ {A = ℕ} (n + 1) (suc n)
    one_more n = omega arith

    none_less : (n : ℕ) → ◌≡◌ {A = ℕ} (0 + n) n
    none_less n = omega arith

-- the rows of the disks below a number, and that of the number where it passes
pub row_more : (p : ℕ → Bool) (n : ℕ) → p n ≡ true → map clear_row (filter p (range_with_len 0 (n + 1))) ≡ map clear_row (filter p (range_with_len 0 n)) ++ clear_row n ∷ []
row_more p n is =
    ap (λ (l : List ℕ). map clear_row (filter p l)) (range_more n)
    ∙ ap (map clear_row) (filter-append p (range_with_len 0 n) (n ∷ []))
    ∙ map-append clear_row (filter p (range_with_len 0 n)) (filter p (n ∷ []))
    ∙ ap (λ b. map clear_row (filter p (range_with_len 0 n)) ++ map clear_row (cond b (n ∷ []) [])) is

pub row_same : (p : ℕ → Bool) (n : ℕ) → p n ≡ false → map clear_row (filter p (range_with_len 0 (n + 1))) ≡ map clear_row (filter p (range_with_len 0 n))
row_same p n is =
    ap (λ (l : List ℕ). map clear_row (filter p l)) (range_more n)
    ∙ ap (map clear_row) (filter-append p (range_with_len 0 n) (n ∷ []) ∙ ap (λ b. filter p (range_with_len 0 n) ++ cond b (n ∷ []) []) is ∙ append-nil (filter p (range_with_len 0 n)))
