-- Lists of copies.
use Rattle.std.proofs.Common.{◌≡◌, ◌<◌, ◌≤◌, ◌+◌, ◌⊎◌, [], ◌∷◌, ℕ, zero, suc, List, Option, Some, None, Bool, true, false, cond, nat_lt, length, get_or, refl, inl, inr, arith}
use Rattle.std.specs.List.{All, Contains, find, slice_get}
use Rattle.std.specs.Option.{MatchOption, option_or}
use Rattle.std.proofs.lemmas.Option.{same_Some}
use Rattle.std.proofs.lemmas.Bool.{ltb-true, ltb-false}
use Rattle.std.proofs.lemmas.List.Elements.{All-nil, All-cons, All-weaker, All-get_or}
use Rattle.lvm_sched.specs.Reads.{AreCopiesAbove, AreCopies, IsLowest, IsNextAround}

-- every copy is above, and at most the third
pub copies_above : (below : ℕ) (copies : List ℕ) → AreCopiesAbove below copies → All (λ copy. (below < copy) × (copy ≤ 3)) copies
copies_above below [] are = All-nil (λ copy. (below < copy) × (copy ≤ 3))
copies_above below (copy ∷ copies) are =
    All-cons (λ copy. (below < copy) × (copy ≤ 3)) copy copies (are.0, are.1)
    (All-weaker (λ later. (copy < later) × (later ≤ 3)) (λ later. (below < later) × (later ≤ 3)) (λ later it. (omega (arith, are.0, it.0), it.1)) copies (copies_above copy copies are.2))

-- there are at most three
pub copies_few : (below : ℕ) (copies : List ℕ) → below ≤ 3 → AreCopiesAbove below copies → length copies + below ≤ 3
copies_few below [] most are = omega (arith, most)
copies_few below (copy ∷ copies) most are = omega (arith, are.0, copies_few copy copies are.1 are.2)

-- a later copy has a higher number
pub copies_rise : (below : ℕ) (copies : List ℕ) → AreCopiesAbove below copies → (j k : ℕ) → j < k → k < length copies → get_or copies j 0 < get_or copies k 0
copies_rise below [] are j k order within = absurd (omega arith)
copies_rise below (copy ∷ copies) are j zero order within = absurd (omega arith)
copies_rise below (copy ∷ copies) are zero (suc k) order within = (All-get_or (λ later. (copy < later) × (later ≤ 3)) copies k 0 (omega arith) (copies_above copy copies are.2)).0
copies_rise below (copy ∷ copies) are (suc j) (suc k) order within = copies_rise copy copies are.2 j k (omega arith) (omega arith)

-- the first is the lowest
pub first_is_lowest : (copy : ℕ) (copies : List ℕ) → AreCopies (copy ∷ copies) → IsLowest (copy ∷ copies) copy
first_is_lowest copy copies are =
    All-cons (λ later. copy ≤ later) copy copies (omega arith)
    (All-weaker (λ later. (copy < later) × (later ≤ 3)) (λ later. copy ≤ later) (λ later it. omega (arith, it.0)) copies (copies_above copy copies are.2))

-- the first after the last one, if there is one
pub record IsFirstAfter (copies : List ℕ) (last first : ℕ) : Type 0 where
  pub among : Contains copies first
  pub after : last < first
  pub next : All (λ copy. (copy ≤ last) ⊎ (first ≤ copy)) copies

after_test : (t : Bool) (copy : ℕ) (copies : List ℕ) (last first : ℕ) → nat_lt last copy ≡ t → All (λ later. (copy < later) × (later ≤ 3)) copies → (find (λ c. nat_lt last c) copies ≡ Some first → IsFirstAfter copies last first)
    → cond t (Some copy) (find (λ c. nat_lt last c) copies) ≡ Some first → IsFirstAfter (copy ∷ copies) last first
after_test true copy copies last first test later rest is =
    let same : copy ≡ first = same_Some copy first is in
    record {
      among = (0, omega arith, same);
      after = rw (← same) (ltb-true last copy test);
      next = All-cons (λ c. (c ≤ last) ⊎ (first ≤ c)) copy copies (inr (omega (arith, same)))
          (All-weaker (λ c. (copy < c) × (c ≤ 3)) (λ c. (c ≤ last) ⊎ (first ≤ c)) (λ c it. inr (omega (arith, it.0, same))) copies later);
    }
after_test false copy copies last first test later rest is =
    let it : IsFirstAfter copies last first = rest is in
    record {
      among = (suc it.among.0, omega (arith, it.among.1), it.among.2);
      after = it.after;
      next = All-cons (λ c. (c ≤ last) ⊎ (first ≤ c)) copy copies (inl (ltb-false last copy test)) it.next;
    }

pub first_after : (below : ℕ) (copies : List ℕ) (last first : ℕ) → AreCopiesAbove below copies → find (λ copy. nat_lt last copy) copies ≡ Some first → IsFirstAfter copies last first
first_after below [] last first are is = cc
first_after below (copy ∷ copies) last first are is = after_test (nat_lt last copy) copy copies last first refl (copies_above copy copies are.2) (λ rest. first_after copy copies last first are.2 rest) is

none_test : (t : Bool) (copy : ℕ) (copies : List ℕ) (last : ℕ) → nat_lt last copy ≡ t → (find (λ c. nat_lt last c) copies ≡ None → All (λ c. c ≤ last) copies) → cond t (Some copy) (find (λ c. nat_lt last c) copies) ≡ None → All (λ c. c ≤ last) (copy ∷ copies)
none_test true copy copies last test rest is = cc
none_test false copy copies last test rest is = All-cons (λ c. c ≤ last) copy copies (ltb-false last copy test) (rest is)

pub none_after : (copies : List ℕ) (last : ℕ) → find (λ copy. nat_lt last copy) copies ≡ None → All (λ copy. copy ≤ last) copies
none_after [] last is = All-nil (λ copy. copy ≤ last)
none_after (copy ∷ copies) last is = none_test (nat_lt last copy) copy copies last refl (none_after copies last) is

-- going round
around : (copies : List ℕ) (last : ℕ) (next lowest : Option ℕ) → AreCopies copies → find (λ copy. nat_lt last copy) copies ≡ next → MatchOption lowest (copies ≡ []) (λ first. Contains copies first × IsLowest copies first)
    → MatchOption (option_or next lowest) (copies ≡ []) (λ first. Contains copies first × IsNextAround copies last first)
around copies last (Some first) lowest are is low = let it : IsFirstAfter copies last first = first_after 0 copies last first are is in (it.among, inl (it.after, it.next))
around copies last None (Some first) are is low = (low.0, inr (none_after copies last is, low.1))
around copies last None None are is low = low

pub next_around : (copies : List ℕ) (last : ℕ) (lowest : Option ℕ) → AreCopies copies → MatchOption lowest (copies ≡ []) (λ first. Contains copies first × IsLowest copies first)
    → MatchOption (option_or (find (λ copy. nat_lt last copy) copies) lowest) (copies ≡ []) (λ first. Contains copies first × IsNextAround copies last first)
next_around copies last lowest are low = around copies last (find (λ copy. nat_lt last copy) copies) lowest are refl low

pub lowest_of : (copies : List ℕ) → AreCopies copies → MatchOption (slice_get copies 0) (copies ≡ []) (λ first. Contains copies first × IsLowest copies first)
lowest_of [] are = refl
lowest_of (copy ∷ copies) are = ((0, omega arith, refl), first_is_lowest copy copies are)
