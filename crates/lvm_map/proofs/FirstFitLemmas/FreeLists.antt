-- The free partitions of members, with one more used.
use Rattle.std.proofs.Common.{◌≡◌, ◌≢◌, inl, inr, ℕ, zero, suc, ◌<◌, Bool, true, false, cond, ◌&&◌, ◌||◌, not, List, [], ◌∷◌, ◌++◌, length, map, get_or, set, Some, refl, sym, ap, subst, ◌∙◌, arith}
use Rattle.std.specs.Prelude.{◌==◌, All, AllPairs, filter, slice_get}
use Rattle.std.specs.List.{range_with_len}
use Rattle.std.proofs.lemmas.Bool.{cases_Bool}
use Rattle.std.proofs.lemmas.List.{length-map}
use Rattle.std.proofs.lemmas.List.Elements.{All-map, All-head, All-tail, All-filter, All-weaker, filter_agree}
use Rattle.std.proofs.lemmas.List.Folds.{list_any-append}
use Rattle.std.proofs.lemmas.List.FromFn.{length-range_with_len, get_or-map-range_with_len}
use Rattle.lvm_num.specs.declared.place.Pp.{Pp}
use Rattle.lvm_num.specs.declared.descriptor.PvRow.{PvRow}
use Rattle.lvm_num.specs.Descriptor.{is_pp}
use Rattle.lvm_num.proofs.Pairs.{AllPairs-right}
use Rattle.lvm_num.proofs.Booleans.{or_false}
use Rattle.lvm_map.specs.FirstFit.{is_among, partitions_of, free_of}
pub use Rattle.lvm_num.proofs.DescriptorLemmas.Partitions.{one_partition as is_pp-true, same_partition as is_pp-same}
use Rattle.lvm_num.proofs.Lists.{pairs_head}

-- ---- one partition

pub is_pp-apart : (a b : Pp) → a ≢ b → is_pp a b ≡ false
is_pp-apart a b apart = elim (cases_Bool (is_pp a b)) [
  | inl is ↦ absurd (apart (is_pp-true a b is))
  | inr isnt ↦ isnt
]

pub among-more : (used : List Pp) (pp x : Pp) → is_among (used ++ pp ∷ []) x ≡ is_among used x || is_pp pp x
among-more used pp x =
    list_any-append (λ (p : Pp). p.disk == x.disk && p.pp == x.pp) used (pp ∷ [])
    ∙ ap (λ b. is_among used x || b) (or_false (is_pp pp x))

-- ---- lists

pub filter_same : {X : Type 0} (p q : X → Bool) (xs : List X) → All (λ x. p x ≡ q x) xs → filter p xs ≡ filter q xs
filter_same p q [] same = refl
filter_same {X} p q (x ∷ xs) same =
    let here : p x ≡ q x = All-head (λ (y : X). p y ≡ q y) x xs same in
    let rest : filter p xs ≡ filter q xs = filter_same p q xs (All-tail (λ (y : X). p y ≡ q y) x xs same) in
    λ t. cond (here t) (x ∷ rest t) (rest t)

pub map_same : {X Y : Type 0} (f g : X → Y) (xs : List X) → All (λ x. f x ≡ g x) xs → map f xs ≡ map g xs
map_same f g [] same = refl
map_same {X} f g (x ∷ xs) same =
    let here : f x ≡ g x = All-head (λ (y : X). f y ≡ g y) x xs same in
    let rest : map f xs ≡ map g xs = map_same f g xs (All-tail (λ (y : X). f y ≡ g y) x xs same) in
    λ t. here t ∷ rest t

-- ---- the partitions of a member

pub partitions-disk : (row : PvRow) → All (λ (pp : Pp). pp.disk ≡ row.disk) (partitions_of row)
partitions-disk row = All-map (λ (pp : Pp). pp.disk ≡ row.disk) (λ k. let pp : Pp = record { disk = row.disk; pp = k } in pp) (range_with_len 0 row.pps) (λ k d lt. refl)

pub free-disk : (used : List Pp) (row : PvRow) → All (λ (pp : Pp). pp.disk ≡ row.disk) (free_of used row)
free-disk used row = All-filter (λ pp. not (is_among used pp)) (λ (pp : Pp). pp.disk ≡ row.disk) (partitions_of row) (partitions-disk row)

pub free-head_disk : (used : List Pp) (row : PvRow) (pp : Pp) (rest : List Pp) → free_of used row ≡ pp ∷ rest → pp.disk ≡ row.disk
free-head_disk used row pp rest is =
    All-head (λ (p : Pp). p.disk ≡ row.disk) pp rest (subst (All (λ (p : Pp). p.disk ≡ row.disk)) is (free-disk used row))

abbrev numbered : PvRow → ℕ → Pp
numbered row k = record { disk = row.disk; pp = k }

pub partitions-at : (row : PvRow) (k : ℕ) (d : Pp) → k < row.pps → get_or (partitions_of row) k d ≡ record { disk = row.disk; pp = k }
partitions-at row k d lt = get_or-map-range_with_len (numbered row) 0 row.pps k k d lt (omega arith)

pub partitions-size : (row : PvRow) → length (partitions_of row) ≡ row.pps
partitions-size row = length-map (range_with_len 0 row.pps) (numbered row) ∙ length-range_with_len 0 row.pps

partitions-differ : (row : PvRow) → AllPairs (λ (a b : Pp). a ≢ b) (partitions_of row)
partitions-differ row i j d less lt same =
    let size = partitions-size row in
    let first = partitions-at row i d (omega arith) in
    let second = partitions-at row j d (omega arith) in
    let is : i ≡ j = ap (λ (pp : Pp). pp.pp) (sym first ∙ same ∙ second) in
    omega arith

-- ---- one more is used

-- on another disk
pub free-apart : (used : List Pp) (pp : Pp) (row : PvRow) → pp.disk ≢ row.disk → free_of (used ++ pp ∷ []) row ≡ free_of used row
free-apart used pp row apart =
    filter_same (λ x. not (is_among (used ++ pp ∷ []) x)) (λ x. not (is_among used x)) (partitions_of row)
    (All-weaker (λ (x : Pp). x.disk ≡ row.disk) (λ (x : Pp). not (is_among (used ++ pp ∷ []) x) ≡ not (is_among used x))
    (λ x on.
    let other : is_pp pp x ≡ false = is_pp-apart pp x (λ same. apart (ap (λ (p : Pp). p.disk) same ∙ on)) in
    ap not (among-more used pp x ∙ ap (λ b. is_among used x || b) other ∙ or_false (is_among used x)))
    (partitions_of row) (partitions-disk row))

-- that was used before
among-known : (used : List Pp) (pp x : Pp) → is_among used pp ≡ true → is_among used x || is_pp pp x ≡ is_among used x
among-known used pp x known = elim (cases_Bool (is_pp pp x)) [
  | inl is ↦
      let there : is_among used x ≡ true = sym (ap (is_among used) (is_pp-true pp x is)) ∙ known in
      ap (λ b. b || is_pp pp x) there ∙ sym there
  | inr isnt ↦ ap (λ b. is_among used x || b) isnt ∙ or_false (is_among used x)
]

pub free-known : (used : List Pp) (pp : Pp) (row : PvRow) → is_among used pp ≡ true → free_of (used ++ pp ∷ []) row ≡ free_of used row
free-known used pp row known =
    filter_agree (λ x. not (is_among (used ++ pp ∷ []) x)) (λ x. not (is_among used x))
    (λ x. ap not (among-more used pp x ∙ among-known used pp x known)) (partitions_of row)

-- the first of these
without_first : (p q : Pp → Bool) (pp : Pp) (rest xs : List Pp) → ((x : Pp) → q x ≡ p x && not (is_pp pp x)) → AllPairs (λ (a b : Pp). a ≢ b) xs
    → filter p xs ≡ pp ∷ rest → filter q xs ≡ rest
without_first p q pp rest [] says apart is = absurd cc
without_first p q pp rest (y ∷ ys) says apart is =
    by_test (p y) refl is (without_first p q pp rest ys says (AllPairs-right (λ (a b : Pp). a ≢ b) (y ∷ []) ys apart))
  where
    and_true : (a : Bool) → a && true ≡ a
    and_true true = refl
    and_true false = refl

    and_false : (a : Bool) → a && false ≡ false
    and_false true = refl
    and_false false = refl

    by_test : (b : Bool) → p y ≡ b → cond b (y ∷ filter p ys) (filter p ys) ≡ pp ∷ rest → (filter p ys ≡ pp ∷ rest → filter q ys ≡ rest)
        → cond (q y) (y ∷ filter q ys) (filter q ys) ≡ rest
    by_test true test here later =
        let same : pp ≡ y = cc in
        let others : filter p ys ≡ rest = cc in
        let gone : q y ≡ false = says y ∙ ap (λ b. p y && not b) (is_pp-same pp y same) ∙ and_false (p y) in
        ap (λ b. cond b (y ∷ filter q ys) (filter q ys)) gone
        ∙ filter_same q p ys
        (All-weaker (λ (x : Pp). y ≢ x) (λ (x : Pp). q x ≡ p x)
        (λ x differs. says x ∙ ap (λ b. p x && not b) (is_pp-apart pp x (λ e. differs (sym same ∙ e))) ∙ and_true (p x))
        ys (pairs_head (λ (a b : Pp). a ≢ b) y ys apart))
        ∙ others
    by_test false test here later =
        let gone : q y ≡ false = says y ∙ ap (λ b. b && not (is_pp pp y)) test in
        ap (λ b. cond b (y ∷ filter q ys) (filter q ys)) gone ∙ later here

not_or : (a b : Bool) → not (a || b) ≡ not a && not b
not_or true b = refl
not_or false b = refl

pub free-taken : (used : List Pp) (pp : Pp) (rest : List Pp) (row : PvRow) → free_of used row ≡ pp ∷ rest → free_of (used ++ pp ∷ []) row ≡ rest
free-taken used pp rest row is =
    without_first (λ x. not (is_among used x)) (λ x. not (is_among (used ++ pp ∷ []) x)) pp rest (partitions_of row)
    (λ x. ap not (among-more used pp x) ∙ not_or (is_among used x) (is_pp pp x)) (partitions-differ row) is

-- ---- of several members

pub members-known : (used : List Pp) (pp : Pp) (rows : List PvRow) → is_among used pp ≡ true → map (free_of (used ++ pp ∷ [])) rows ≡ map (free_of used) rows
members-known used pp rows known = map_same (free_of (used ++ pp ∷ [])) (free_of used) rows (λ k d lt. free-known used pp (get_or rows k d) known)

-- the member of the one that is taken
its_member : (used : List Pp) (rows : List PvRow) (i : ℕ) (pp : Pp) (rest : List Pp) → slice_get (map (free_of used) rows) i ≡ Some (pp ∷ rest)
    → (i < length rows) × ((d : PvRow) → pp.disk ≡ (get_or rows i d).disk)
its_member used [] i pp rest is = absurd cc
its_member used (row ∷ rows) zero pp rest is =
    let own : free_of used row ≡ pp ∷ rest = cc in
    (omega arith, λ d. free-head_disk used row pp rest own)
its_member used (row ∷ rows) (suc i) pp rest is =
    let later = its_member used rows i pp rest is in
    (omega (arith, later.0), later.1)

pub members-taken : (used : List Pp) (pp : Pp) (rest : List Pp) (rows : List PvRow) (i : ℕ) → AllPairs (λ (a b : PvRow). a.disk ≢ b.disk) rows
    → slice_get (map (free_of used) rows) i ≡ Some (pp ∷ rest) → map (free_of (used ++ pp ∷ [])) rows ≡ set (map (free_of used) rows) i rest
members-taken used pp rest [] i apart is = absurd cc
members-taken used pp rest (row ∷ rows) zero apart is =
    let own : free_of used row ≡ pp ∷ rest = cc in
    let disk = free-head_disk used row pp rest own in
    let here = free-taken used pp rest row own in
    let others : map (free_of (used ++ pp ∷ [])) rows ≡ map (free_of used) rows =
    map_same (free_of (used ++ pp ∷ [])) (free_of used) rows
    (All-weaker (λ (r : PvRow). row.disk ≢ r.disk) (λ (r : PvRow). free_of (used ++ pp ∷ []) r ≡ free_of used r)
    (λ r differs. free-apart used pp r (λ e. differs (sym disk ∙ e))) rows (pairs_head (λ (a b : PvRow). a.disk ≢ b.disk) row rows apart)) in
    λ t. here t ∷ others t
members-taken used pp rest (row ∷ rows) (suc i) apart is =
    let found = its_member used rows i pp rest is in
    let here : free_of (used ++ pp ∷ []) row ≡ free_of used row =
    free-apart used pp row (λ e. pairs_head (λ (a b : PvRow). a.disk ≢ b.disk) row rows apart i row found.0 (sym e ∙ found.1 row)) in
    let others = members-taken used pp rest rows i (AllPairs-right (λ (a b : PvRow). a.disk ≢ b.disk) (row ∷ []) rows apart) is in
    λ t. here t ∷ others t
