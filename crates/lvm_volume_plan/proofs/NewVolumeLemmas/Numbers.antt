-- The numbers of volumes, and the lowest that is free.
use Rattle.std.proofs.Common.{◌≡◌, inl, inr, ℕ, zero, suc, ◌+◌, ◌-◌, ◌<◌, ◌≤◌, Bool, true, false, List, [], ◌∷◌, length, get_or, Some, None, refl, sym, subst, ◌∙◌, eq-eqb, arith}
use Rattle.std.specs.Prelude.{◌==◌, find, IsSome, if◌then◌else◌}
use Rattle.std.proofs.lemmas.Bool.{cases_lt, eqb-true}
use Rattle.lvm_num.specs.declared.descriptor.Mode.TheVariants as mode
use Rattle.lvm_num.specs.declared.descriptor.Policy.TheVariants as policy
use Rattle.lvm_num.specs.declared.descriptor.LvRow.{LvRow}
use Rattle.lvm_num.specs.declared.descriptor.Descriptor.{Descriptor}
use Rattle.lvm_num.specs.Descriptor.{IsValid}
use Rattle.lvm_volume_plan.specs.NewVolume.{IsLowestFree, IsInOrder}

-- the first rows have the numbers from 1 on
abbrev pub AreNumbered : List LvRow → ℕ → Type 0
AreNumbered rows n = (k : ℕ) (e : LvRow) → k < n → (get_or rows k e).number ≡ k + 1

pub numbered_more : (rows : List LvRow) (n : ℕ) → AreNumbered rows n → ((e : LvRow) → (get_or rows n e).number ≡ n + 1) → AreNumbered rows (n + 1)
numbered_more rows n below here k e lt = elim (cases_lt k n) [
  | inl less ↦ below k e less
  | inr past ↦ let same : n ≡ k = omega (arith, lt, past) in subst (λ (m : ℕ). (get_or rows m e).number ≡ m + 1) same (here e)
]

-- ---- what is found by number

abbrev has_number : ℕ → LvRow → Bool
has_number m row = row.number == m

pub found_at : (rows : List LvRow) (m k : ℕ) (e : LvRow) → k < length rows → (get_or rows k e).number ≡ m → IsSome (find (has_number m) rows)
found_at [] m k e lt is = absurd (omega (arith, lt))
found_at (r ∷ rows) m zero e lt is = subst (λ (t : Bool). IsSome (if t then Some r else find (has_number m) rows)) (sym (eq-eqb r.number m is)) refl
found_at (r ∷ rows) m (suc k) e lt is = by_test (r.number == m) (found_at rows m k e (omega (arith, lt)) is)
  where
    by_test : (t : Bool) → IsSome (find (has_number m) rows) → IsSome (if t then Some r else find (has_number m) rows)
    by_test true rest = refl
    by_test false rest = rest

pub not_found : (rows : List LvRow) (m : ℕ) → ((k : ℕ) (e : LvRow) → k < length rows → (get_or rows k e).number ≡ m → ⊥) → find (has_number m) rows ≡ None
not_found [] m none = refl
not_found (r ∷ rows) m none = by_test (r.number == m) refl (not_found rows m (λ k e lt its. none (suc k) e (omega (arith, lt)) its))
  where
    by_test : (t : Bool) → (r.number == m) ≡ t → find (has_number m) rows ≡ None → (if t then Some r else find (has_number m) rows) ≡ None
    by_test true is rest = absurd (none 0 r (omega arith) (eqb-true r.number m is))
    by_test false is rest = rest

-- ---- the lowest that is free

-- stands for a row behind the last
no_row : LvRow
no_row = record { number = 0; name = []; copies = 0; mode = mode.Off; policy = policy.Parallel; lps = 0; map = [] }

module _ (d : Descriptor) (valid : IsValid d) (i : ℕ) (low : i ≤ length d.lvs) (numbered : AreNumbered d.lvs i)
    (gap : (e : LvRow) → i < length d.lvs → (get_or d.lvs i e).number ≡ i + 1 → ⊥) where
  -- the row at the gap, and each behind it, has a greater number
  above : (k : ℕ) (e : LvRow) → i ≤ k → k < length d.lvs → i + 1 < (get_or d.lvs k e).number
  above k e past lt = elim (cases_lt i k) [
    | inl less ↦ let rise = valid.volumes.numbers_rise i k e less lt in let here = at (omega (arith, less, lt)) e in omega (arith, rise, here)
    | inr same ↦ let is : i ≡ k = omega (arith, past, same) in subst (λ (m : ℕ). i + 1 < (get_or d.lvs m e).number) is (at (omega (arith, is, lt)) e)
  ]
    where
      least : (e : LvRow) → i < length d.lvs → i < (get_or d.lvs i e).number
      least e lt = elim (cases_lt 0 i) [
        | inl some ↦ let before = numbered (i - 1) e (omega (arith, some)) in let rise = valid.volumes.numbers_rise (i - 1) i e (omega (arith, some)) lt in omega (arith, before, rise, some)
        | inr none ↦ let one = (valid.volumes.each i e lt).a_number in omega (arith, one, none)
      ]

      at : i < length d.lvs → (e : LvRow) → i + 1 < (get_or d.lvs i e).number
      at lt e = elim (cases_lt (i + 1) (get_or d.lvs i e).number) [
        | inl more ↦ more
        | inr upto ↦ let more = least e lt in absurd (gap e lt (omega (arith, more, upto)))
      ]

  pub lowest_is : IsLowestFree d (i + 1)
  lowest_is = record {
    least = omega arith;
    free = not_found d.lvs (i + 1) (λ k e lt is. elim (cases_lt k i) [
      | inl below ↦ let own = numbered k e below in absurd (omega (arith, own, is, below))
      | inr past ↦ let more = above k e past lt in absurd (omega (arith, more, is))
    ]);
    lower = λ n least below.
        let own : (get_or d.lvs (n - 1) no_row).number ≡ (n - 1) + 1 = numbered (n - 1) no_row (omega (arith, below, least)) in
        let same : (n - 1) + 1 ≡ n = omega (arith, least) in
        found_at d.lvs n (n - 1) no_row (omega (arith, below, least, low)) (own ∙ same);
  }

  pub order_is : IsInOrder d (i + 1)
  order_is = record {
    within = omega (arith, low);
    before = λ k e lt. let own = numbered k e (omega (arith, lt)) in omega (arith, own, lt);
    behind = λ k e past lt. above k e (omega (arith, past)) lt;
  }

-- both, where the rows up to one are numbered from 1 and that one isn't
pub number_is : (d : Descriptor) (rows : List LvRow) (k lowest : ℕ) → IsValid d → rows ≡ d.lvs → lowest ≡ k + 1 → AreNumbered rows k → k ≤ length rows → ((e : LvRow) → k < length rows → (get_or rows k e).number ≡ k + 1 → ⊥)
    → IsLowestFree d lowest × IsInOrder d lowest
number_is d rows k lowest valid same is numbered within gap =
    let numbered_d : AreNumbered d.lvs k = subst (λ (l : List LvRow). AreNumbered l k) same numbered in
    let within_d : k ≤ length d.lvs = subst (λ (l : List LvRow). k ≤ length l) same within in
    let gap_d = subst (λ (l : List LvRow). (e : LvRow) → k < length l → (get_or l k e).number ≡ k + 1 → ⊥) same gap in
    (subst (IsLowestFree d) (sym is) (lowest_is d valid k within_d numbered_d gap_d), subst (IsInOrder d) (sym is) (order_is d valid k within_d numbered_d gap_d))
