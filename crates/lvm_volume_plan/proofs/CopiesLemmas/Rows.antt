-- The rows of a descriptor in which a volume has other copies.
use Rattle.std.proofs.Common.{◌≡◌, ◌≢◌, inl, inr, ℕ, zero, suc, ◌<◌, Bool, true, false, List, [], ◌∷◌, length, get_or, set, Option, Some, map, refl, sym, ap, subst, ◌∙◌, eq-eqb, arith}
use Rattle.std.specs.Prelude.{◌==◌, find, option_map, slice_get, All, AllPairs, if◌then◌else◌}
use Rattle.std.proofs.lemmas.Bool.{eqb-true, false≢true}
use Rattle.std.proofs.lemmas.List.{get_or-map, length-map}
use Rattle.std.proofs.lemmas.List.Elements.{All-contains}
use Rattle.lvm_num.specs.declared.place.Pp.{Pp}
use Rattle.lvm_num.specs.declared.descriptor.LvRow.{LvRow}
use Rattle.lvm_num.specs.declared.descriptor.Descriptor.{Descriptor}
use Rattle.lvm_num.proofs.Lists.{pairs_head, pairs_tail}
use Rattle.lvm_kept.specs.Group.{IsOneOf}
use Rattle.lvm_steps.specs.Committing.{DiffersInVolume}
use Rattle.lvm_volume_plan.proofs.passed.Commit.{contains}
use Rattle.lvm_volume_plan.specs.Copies.{with_map, with_copies}

abbrev has_number : ℕ → LvRow → Bool
has_number m row = row.number == m

abbrev pub AreRising : List LvRow → Type 0
AreRising rows = AllPairs (λ (a b : LvRow). a.number < b.number) rows

-- the first volume of the number is the only one
pub only : (lv : ℕ) (rows : List LvRow) (row x : LvRow) → AreRising rows → find (has_number lv) rows ≡ Some row → IsOneOf rows x → x.number ≡ lv → x ≡ row
only lv [] row x rising is one its = absurd one
only lv (y ∷ ys) row x rising is one its = by_test (y.number == lv) refl (λ rest among. only lv ys row x (pairs_tail (λ (a b : LvRow). a.number < b.number) y ys rising) rest among its) is one
  where
    by_test : (t : Bool) → (y.number == lv) ≡ t → (find (has_number lv) ys ≡ Some row → IsOneOf ys x → x ≡ row) → (if t then Some y else find (has_number lv) ys) ≡ Some row → IsOneOf (y ∷ ys) x → x ≡ row
    by_test true test rest is (inl here) = cc
    by_test true test rest is (inr there) =
        let less : y.number < x.number = All-contains (λ (b : LvRow). y.number < b.number) ys x (pairs_head (λ (a b : LvRow). a.number < b.number) y ys rising) (contains ys x there) in
        let own = eqb-true y.number lv test in
        absurd (omega (arith, less, own, its))
    by_test false test rest is (inl here) = absurd (false≢true (sym test ∙ eq-eqb y.number lv (ap (λ (r : LvRow). r.number) (sym here) ∙ its)))
    by_test false test rest is (inr there) = rest is there

-- what is found is one of them
pub one_found : (lv : ℕ) (rows : List LvRow) (row : LvRow) → find (has_number lv) rows ≡ Some row → IsOneOf rows row
one_found lv [] row is = absurd cc
one_found lv (x ∷ xs) row is = by_test (x.number == lv) (one_found lv xs row) is
  where
    by_test : (t : Bool) → (find (has_number lv) xs ≡ Some row → IsOneOf xs row) → (if t then Some x else find (has_number lv) xs) ≡ Some row → IsOneOf (x ∷ xs) row
    by_test true rest is = inl (let same : x ≡ row = cc in sym same)
    by_test false rest is = inr (rest is)

module _ (lv copies : ℕ) (pps : List Pp) where
  abbrev pub other : LvRow → LvRow
  other row = if row.number == lv then with_map row copies pps else row

  pub same_number : (row : LvRow) → (other row).number ≡ row.number
  same_number row = by_test (row.number == lv)
    where
      by_test : (t : Bool) → (if t then with_map row copies pps else row).number ≡ row.number
      by_test true = refl
      by_test false = refl

  pub same_name : (row : LvRow) → (other row).name ≡ row.name
  same_name row = by_test (row.number == lv)
    where
      by_test : (t : Bool) → (if t then with_map row copies pps else row).name ≡ row.name
      by_test true = refl
      by_test false = refl

  -- ---- what is found by number

  pub named : (rows : List LvRow) (row : LvRow) → find (has_number lv) rows ≡ Some row → find (has_number lv) (map other rows) ≡ Some (with_map row copies pps)
  named [] row is = absurd cc
  named (x ∷ xs) row is = by_test (x.number == lv) refl (named xs row) is
    where
      by_test : (t : Bool) → (x.number == lv) ≡ t → (find (has_number lv) xs ≡ Some row → find (has_number lv) (map other xs) ≡ Some (with_map row copies pps)) → (if t then Some x else find (has_number lv) xs) ≡ Some row
          → find (has_number lv) ((if t then with_map x copies pps else x) ∷ map other xs) ≡ Some (with_map row copies pps)
      by_test true test rest is = ap (λ (t : Bool). if t then Some (with_map x copies pps) else find (has_number lv) (map other xs)) test ∙ ap (option_map (λ (r : LvRow). with_map r copies pps)) is
      by_test false test rest is = ap (λ (t : Bool). if t then Some x else find (has_number lv) (map other xs)) test ∙ rest is

  pub find_others : (rows : List LvRow) (n : ℕ) → (n ≡ lv → ⊥) → find (has_number n) (map other rows) ≡ find (has_number n) rows
  find_others [] n apart = refl
  find_others (x ∷ xs) n apart = by_test (x.number == lv) refl (find_others xs n apart)
    where
      differs : (t : Bool) → (x.number == n) ≡ t → x.number ≡ lv → t ≡ false
      differs true is its = absurd (apart (sym (eqb-true x.number n is) ∙ its))
      differs false is its = refl

      by_test : (t : Bool) → (x.number == lv) ≡ t → find (has_number n) (map other xs) ≡ find (has_number n) xs
          → find (has_number n) ((if t then with_map x copies pps else x) ∷ map other xs) ≡ find (has_number n) (x ∷ xs)
      by_test true test rest =
          let isnt : (x.number == n) ≡ false = differs (x.number == n) refl (eqb-true x.number lv test) in
          ap (λ (t : Bool). if t then Some (with_map x copies pps) else find (has_number n) (map other xs)) isnt ∙ rest ∙ sym (ap (λ (t : Bool). if t then Some x else find (has_number n) xs) isnt)
      by_test false test rest = ap (λ (o : Option LvRow). if x.number == n then Some x else o) rest

  -- ---- the rows

  pub one_other : (rows : List LvRow) (r : LvRow) → IsOneOf (map other rows) r → (r.number ≡ lv → ⊥) → IsOneOf rows r
  one_other [] r one apart = one
  one_other (x ∷ xs) r one apart = by_test (x.number == lv) refl (λ there. one_other xs r there apart) one
    where
      by_test : (t : Bool) → (x.number == lv) ≡ t → (IsOneOf (map other xs) r → IsOneOf xs r) → IsOneOf ((if t then with_map x copies pps else x) ∷ map other xs) r → IsOneOf (x ∷ xs) r
      by_test true test rest (inl here) = absurd (apart (ap (λ (y : LvRow). y.number) here ∙ eqb-true x.number lv test))
      by_test true test rest (inr there) = inr (rest there)
      by_test false test rest (inl here) = inl here
      by_test false test rest (inr there) = inr (rest there)

  -- a row of the number was one with other copies
  from_row : (rows : List LvRow) (r : LvRow) → IsOneOf (map other rows) r → r.number ≡ lv → (x : LvRow) × IsOneOf rows x × (r ≡ with_map x copies pps)
  from_row [] r one its = absurd one
  from_row (x ∷ xs) r one its = by_test (x.number == lv) refl (λ there. from_row xs r there its) one
    where
      by_test : (t : Bool) → (x.number == lv) ≡ t → (IsOneOf (map other xs) r → (y : LvRow) × IsOneOf xs y × (r ≡ with_map y copies pps)) → IsOneOf ((if t then with_map x copies pps else x) ∷ map other xs) r
          → (y : LvRow) × IsOneOf (x ∷ xs) y × (r ≡ with_map y copies pps)
      by_test true test rest (inl here) = (x, inl refl, here)
      by_test true test rest (inr there) = let y = rest there in (y.0, inr y.1, y.2)
      by_test false test rest (inl here) = absurd (false≢true (sym test ∙ eq-eqb x.number lv (ap (λ (y : LvRow). y.number) (sym here) ∙ its)))
      by_test false test rest (inr there) = let y = rest there in (y.0, inr y.1, y.2)

  -- the row of the number has the other copies
  pub own_row : (rows : List LvRow) (row r : LvRow) → AreRising rows → find (has_number lv) rows ≡ Some row → IsOneOf (map other rows) r → r.number ≡ lv → r ≡ with_map row copies pps
  own_row rows row r rising is one its =
      let x = from_row rows r one its in
      x.2 ∙ ap (λ (y : LvRow). with_map y copies pps) (only lv rows row x.0 rising is x.1 (ap (λ (y : LvRow). y.number) (sym x.2) ∙ its))

  pub differs : (d : Descriptor) → DiffersInVolume lv d (with_copies d lv copies pps)
  differs d = record { alone = refl; rows = λ r one apart. one_other d.lvs r one apart; volumes = λ n apart. find_others d.lvs n apart }

  -- ---- one row is set

  none_other : (rows : List LvRow) → All (λ (r : LvRow). r.number ≡ lv → ⊥) rows → map other rows ≡ rows
  none_other [] none = refl
  none_other (x ∷ xs) none = by_test (x.number == lv) refl (none_other xs (λ k e lt. none (suc k) e (omega (arith, lt))))
    where
      by_test : (t : Bool) → (x.number == lv) ≡ t → map other xs ≡ xs → (if t then with_map x copies pps else x) ∷ map other xs ≡ x ∷ xs
      by_test true test rest = absurd (none 0 x (omega arith) (eqb-true x.number lv test))
      by_test false test rest = ap (λ (ys : List LvRow). x ∷ ys) rest

  pub is_set : (rows : List LvRow) (k : ℕ) (row : LvRow) → AreRising rows → slice_get rows k ≡ Some row → row.number ≡ lv → map other rows ≡ set rows k (with_map row copies pps)
  is_set [] k row rising is its = absurd cc
  is_set (x ∷ xs) zero row rising is its =
      let same : x ≡ row = cc in
      let own : x.number ≡ lv = ap (λ (r : LvRow). r.number) same ∙ its in
      let here : other x ≡ with_map row copies pps = ap (λ (t : Bool). if t then with_map x copies pps else x) (eq-eqb x.number lv own) ∙ ap (λ (r : LvRow). with_map r copies pps) same in
      let rest : map other xs ≡ xs = none_other xs (λ k e lt number. let less = pairs_head (λ (a b : LvRow). a.number < b.number) x xs rising k e lt in omega (arith, less, own, number)) in
      λ t. here t ∷ rest t
  is_set (x ∷ xs) (suc k) row rising is its =
      let less : x.number < row.number = before xs k (pairs_head (λ (a b : LvRow). a.number < b.number) x xs rising) is in
      let here : other x ≡ x = apart (x.number == lv) refl (λ same. omega (arith, less, its, same)) in
      let rest = is_set xs k row (pairs_tail (λ (a b : LvRow). a.number < b.number) x xs rising) is its in
      λ t. here t ∷ rest t
    where
      apart : (t : Bool) → (x.number == lv) ≡ t → (x.number ≡ lv → ⊥) → (if t then with_map x copies pps else x) ≡ x
      apart true test isnt = absurd (isnt (eqb-true x.number lv test))
      apart false test isnt = refl

      before : (ys : List LvRow) (j : ℕ) → All (λ (b : LvRow). x.number < b.number) ys → slice_get ys j ≡ Some row → x.number < row.number
      before [] j all is = absurd cc
      before (y ∷ ys) zero all is = let same : y ≡ row = cc in subst (λ (r : LvRow). x.number < r.number) same (all 0 y (omega arith))
      before (y ∷ ys) (suc j) all is = before ys j (λ i e lt. all (suc i) e (omega (arith, lt))) is

  -- ---- what each two rows have in common

  pub keeps_pairs : (R : LvRow → LvRow → Type 0) → ((x y : LvRow) → R x y → R (other x) (other y)) → (rows : List LvRow) → AllPairs R rows → AllPairs R (map other rows)
  keeps_pairs R keeps rows pairs i j e less lt =
      let size = length-map rows other in
      let j-lt : j < length rows = omega (arith, lt, size) in
      let i-lt : i < length rows = omega (arith, less, j-lt) in
      subst (λ (x : LvRow). R x (get_or (map other rows) j e)) (sym (get_or-map other rows i e e i-lt)) (subst (λ (y : LvRow). R (other (get_or rows i e)) y) (sym (get_or-map other rows j e e j-lt)) (keeps (get_or rows i e) (get_or rows j e) (pairs i j e less j-lt)))
