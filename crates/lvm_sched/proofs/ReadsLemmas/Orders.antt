-- The copy on the disk with the fewest flights, and the order behind the first.
use Rattle.std.proofs.Common.{◌≡◌, ◌<◌, ◌≤◌, ◌+◌, ◌⊎◌, [], ◌∷◌, ◌++◌, ℕ, zero, suc, List, Some, Bool, true, false, cond, not, ◌==◌, length, get_or, take, drop, refl, sym, ◌∙◌, ap, subst, inl, inr, arith, take-append-drop, length-append, below_more}
use Rattle.std.specs.List.{All, Contains, filter, slice_get}
use Rattle.std.proofs.lemmas.Option.{slice_get_within, get_or_from_slice_get}
use Rattle.std.proofs.lemmas.List.{append-nil, take_all, take_more}
use Rattle.std.proofs.lemmas.Bool.{cases_lt, eq-eqb}
use Rattle.lvm_num.specs.declared.descriptor.Policy.{Policy}
use Rattle.std.proofs.lemmas.List.Elements.{All-get_or, All-from_get_or, Contains-get_or, filter-append}
use Rattle.std.proofs.lemmas.List.Filters.{length-filter_both}
use Rattle.lvm_sched.specs.Reads.{AreCopies, load_of, IsPreferred, IsFirst, IsReadOrder, others}
use Rattle.lvm_sched.proofs.ReadsLemmas.Copies.{copies_above, copies_few, copies_rise}

-- the best of the first so many copies, or the first of all
pub record BestSoFar (usable loads : List ℕ) (i best : ℕ) : Type 0 where
  pub place : ℕ
  pub within : place < length usable
  pub before : place ≤ i
  pub is : get_or usable place 0 ≡ best
  pub least : (k : ℕ) → k < i → IsPreferred loads best (get_or usable k 0)

pub best_better : (usable loads : List ℕ) (i best : ℕ) → i < length usable → load_of loads (get_or usable i 0) < load_of loads best → BestSoFar usable loads i best → BestSoFar usable loads (i + 1) (get_or usable i 0)
best_better usable loads i best within fewer so_far = record {
  place = i;
  within = within;
  before = omega arith;
  is = refl;
  least = below_more (λ k. IsPreferred loads (get_or usable i 0) (get_or usable k 0)) i
      (λ k below. elim (so_far.least k below) [ inl less ↦ inl (omega (arith, fewer, less)) | inr same ↦ inl (omega (arith, fewer, same.0)) ])
      (inr (refl, omega arith));
}

not_after : (usable : List ℕ) (j i : ℕ) → AreCopies usable → j ≤ i → i < length usable → get_or usable j 0 ≤ get_or usable i 0
not_after usable j i are order within = elim (cases_lt j i) [
  | inl before ↦ omega (arith, copies_rise 0 usable are j i before within)
  | inr same ↦ let e : j ≡ i = omega arith in rw e (omega arith)
]

preferred : (loads : List ℕ) (best copy : ℕ) → load_of loads best ≤ load_of loads copy → best ≤ copy → IsPreferred loads best copy
preferred loads best copy no_fewer lower = elim (cases_lt (load_of loads best) (load_of loads copy)) [ inl less ↦ inl less | inr same ↦ inr (omega arith, lower) ]

pub best_kept : (usable loads : List ℕ) (i best : ℕ) → AreCopies usable → i < length usable → load_of loads best ≤ load_of loads (get_or usable i 0) → BestSoFar usable loads i best → BestSoFar usable loads (i + 1) best
best_kept usable loads i best are within no_fewer so_far = record {
  place = so_far.place;
  within = so_far.within;
  before = omega (arith, so_far.before);
  is = so_far.is;
  least = below_more (λ k. IsPreferred loads best (get_or usable k 0)) i so_far.least
      (preferred loads best (get_or usable i 0) no_fewer (rw (← so_far.is) (not_after usable so_far.place i are so_far.before within)));
}

pub best_first : (usable loads : List ℕ) (first : ℕ) → slice_get usable 0 ≡ Some first → BestSoFar usable loads 0 first
best_first usable loads first is = record {
  place = 0;
  within = slice_get_within usable 0 first is;
  before = omega arith;
  is = get_or_from_slice_get usable 0 first 0 is;
  least = λ k below. absurd (omega arith);
}

pub best_number : (usable loads : List ℕ) (i best : ℕ) → AreCopies usable → BestSoFar usable loads i best → (1 ≤ best) × (best ≤ 3)
best_number usable loads i best are so_far =
    let it : (0 < get_or usable so_far.place 0) × (get_or usable so_far.place 0 ≤ 3) = All-get_or (λ copy. (0 < copy) × (copy ≤ 3)) usable so_far.place 0 so_far.within (copies_above 0 usable are) in
    rw (← so_far.is) (omega (arith, it.0), it.1)

pub number_at : (usable : List ℕ) (i : ℕ) → AreCopies usable → i < length usable → (1 ≤ get_or usable i 0) × (get_or usable i 0 ≤ 3)
number_at usable i are within =
    let it : (0 < get_or usable i 0) × (get_or usable i 0 ≤ 3) = All-get_or (λ copy. (0 < copy) × (copy ≤ 3)) usable i 0 within (copies_above 0 usable are) in
    (omega (arith, it.0), it.1)

pub best_of_all : (usable loads : List ℕ) (i best : ℕ) → length usable ≤ i → BestSoFar usable loads i best → Contains usable best × All (IsPreferred loads best) usable
best_of_all usable loads i best all so_far = (
  subst (Contains usable) so_far.is (Contains-get_or usable so_far.place 0 so_far.within),
  All-from_get_or (IsPreferred loads best) usable 0 (λ k within. so_far.least k (omega arith)),
)

-- one that passes is kept by a filter
kept_test : (t : Bool) (p : ℕ → Bool) (copy first : ℕ) (copies : List ℕ) → p copy ≡ t → p first ≡ true → (copy ≡ first) ⊎ Contains copies first → (Contains copies first → 1 ≤ length (filter p copies)) → 1 ≤ length (cond t (copy ∷ filter p copies) (filter p copies))
kept_test true p copy first copies test passes among rest = omega arith
kept_test false p copy first copies test passes among rest = elim among [ inl same ↦ let no : p first ≡ false = rw (← same) test in cc | inr later ↦ rest later ]

filter_some : (p : ℕ → Bool) (copies : List ℕ) (first : ℕ) → p first ≡ true → Contains copies first → 1 ≤ length (filter p copies)
filter_some p [] first passes among = absurd (omega (arith, among.1))
filter_some p (copy ∷ copies) first passes (zero, within, is) = kept_test (p copy) p copy first copies refl passes (inl is) (λ later. filter_some p copies first passes later)
filter_some p (copy ∷ copies) first passes (suc k, within, is) = kept_test (p copy) p copy first copies refl passes (inr (k, omega arith, is)) (λ later. filter_some p copies first passes later)

-- all but one
others_fewer : (usable : List ℕ) (first : ℕ) → Contains usable first → length (others usable first) + 1 ≤ length usable
others_fewer usable first among =
    let some : 1 ≤ length (filter (λ copy. copy == first) usable) = filter_some (λ copy. copy == first) usable first (eq-eqb first first refl) among in
    omega (arith, some, length-filter_both (λ copy. copy == first) (λ copy. not (copy == first)) (λ copy. refl) usable)

front_fewer : (usable : List ℕ) (first n : ℕ) → length (others (take n usable) first) ≤ length (others usable first)
front_fewer usable first n =
    let p : ℕ → Bool = λ copy. not (copy == first) in
    let parts : filter p usable ≡ filter p (take n usable) ++ filter p (drop n usable) = ap (filter p) (sym (take-append-drop n usable)) ∙ filter-append p (take n usable) (drop n usable) in
    omega (arith, ap length parts, length-append (filter p (take n usable)) (filter p (drop n usable)))

-- a copy more behind the first
pub others_more : (usable : List ℕ) (first i : ℕ) → i < length usable → (get_or usable i 0 == first) ≡ false → others (take (i + 1) usable) first ≡ others (take i usable) first ++ get_or usable i 0 ∷ []
others_more usable first i within other =
    ap (λ (l : List ℕ). others l first) (take_more usable i 0 within) ∙ filter-append (λ copy. not (copy == first)) (take i usable) (get_or usable i 0 ∷ []) ∙ rw other refl

pub others_same : (usable : List ℕ) (first i : ℕ) → i < length usable → (get_or usable i 0 == first) ≡ true → others (take (i + 1) usable) first ≡ others (take i usable) first
others_same usable first i within same =
    ap (λ (l : List ℕ). others l first) (take_more usable i 0 within) ∙ filter-append (λ copy. not (copy == first)) (take i usable) (get_or usable i 0 ∷ []) ∙ rw (same, append-nil) refl

pub others_room : (usable : List ℕ) (first i : ℕ) → AreCopies usable → Contains usable first → i < length usable → (get_or usable i 0 == first) ≡ false → length (first ∷ others (take i usable) first) < 3
others_room usable first i are among within other =
    omega (arith, copies_few 0 usable (omega arith) are, others_fewer usable first among, front_fewer usable first (i + 1), ap length (others_more usable first i within other), length-append (others (take i usable) first) (get_or usable i 0 ∷ []))

pub order_done : (how : Policy) (usable loads : List ℕ) (last first i : ℕ) → length usable ≤ i → Contains usable first → IsFirst how usable last loads first → (items : List ℕ) → items ≡ first ∷ others (take i usable) first → IsReadOrder how usable last loads items
order_done how usable loads last first i all among chosen items is =
    rw is (record { among = among; chosen = chosen; then = ap (λ (l : List ℕ). others l first) (take_all i usable all) })
