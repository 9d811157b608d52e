-- A buffer that is filled from a disk.
use Rattle.std.proofs.Common.{◌≡◌, ◌≢◌, inl, inr, ◌+◌, ◌<◌, [], ◌∷◌, ℕ, zero, suc, List, Some, slice_get, slice_set, slice_index_or, length, drop, refl, sym, ◌∙◌, ap, subst, arith, length-set}
use Rattle.std.proofs.lemmas.Bool.{cases_eq}
use Rattle.lvm_num.specs.Buffer.{Buffer, Sector}
use Rattle.lvm_memory.proofs.FlightsLemmas.Ending.{set_drop}

-- the first i sectors of the buffer are the disk's
pub record FillSoFar (disk : List Sector) (first count : ℕ) (old now : Buffer) (i : ℕ) : Type 0 where
  pub number : now.number ≡ old.number
  pub long : length now.sectors ≡ length old.sectors
  pub found : (j : ℕ) → j < i → slice_get now.sectors j ≡ Some (slice_index_or disk (first + j) [])
  pub rest : drop count now.sectors ≡ drop count old.sectors

set_get_same : (l : List Sector) (i : ℕ) (x : Sector) → i < length l → slice_get (slice_set l i x) i ≡ Some x
set_get_same [] i x within = absurd (omega arith)
set_get_same (y ∷ l) zero x within = refl
set_get_same (y ∷ l) (suc i) x within = set_get_same l i x (omega arith)

set_get_other : (l : List Sector) (i j : ℕ) (x : Sector) → j ≢ i → slice_get (slice_set l i x) j ≡ slice_get l j
set_get_other [] i j x other = refl
set_get_other (y ∷ l) zero zero x other = absurd (other refl)
set_get_other (y ∷ l) zero (suc j) x other = refl
set_get_other (y ∷ l) (suc i) zero x other = refl
set_get_other (y ∷ l) (suc i) (suc j) x other = set_get_other l i j x (λ e. other (ap suc e))

pub one_filled :
    (disk : List Sector) (first count : ℕ) (old now new : Buffer) (i : ℕ) (x : Sector) → FillSoFar disk first count old now i → i < count → i < length now.sectors
    → x ≡ slice_index_or disk (first + i) [] → new ≡ record now { sectors = slice_set now.sectors i x } → FillSoFar disk first count old new (i + 1)
one_filled disk first count old now new i x so_far below within is set_it = subst (λ (b : Buffer). FillSoFar disk first count old b (i + 1)) (sym set_it) (record {
  number = so_far.number;
  long = length-set now.sectors i x ∙ so_far.long;
  found = λ j less. elim (cases_eq j i) [
    | inl here ↦
        ap (λ (k : ℕ). slice_get (slice_set now.sectors i x) k) here ∙ set_get_same now.sectors i x within
        ∙ ap Some (is ∙ ap (λ (k : ℕ). slice_index_or disk (first + k) []) (sym here))
    | inr other ↦ set_get_other now.sectors i j x other ∙ so_far.found j (omega arith)
  ];
  rest = set_drop now.sectors i count x below ∙ so_far.rest;
})

any_default : (l : List Sector) (i : ℕ) (x y : Sector) → i < length l → slice_index_or l i x ≡ slice_index_or l i y
any_default [] i x y within = absurd (omega arith)
any_default (z ∷ l) zero x y within = refl
any_default (z ∷ l) (suc i) x y within = any_default l i x y (omega arith)

pub read_is : (disk : List Sector) (at : ℕ) (x : Sector) → x ≡ slice_index_or disk at x → at < length disk → x ≡ slice_index_or disk at []
read_is disk at x is within = is ∙ any_default disk at x [] within
