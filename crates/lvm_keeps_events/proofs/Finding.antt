-- One of a list that passes a test, and how many do.
use Rattle.std.proofs.Common.{◌≡◌, ◌==◌, ◌<◌, ◌≤◌, ◌+◌, ℕ, zero, suc, Bool, true, false, ◌||◌, if◌then◌else◌, List, [], ◌∷◌, Some, length, get_or, slice_get, refl, sym, ◌∙◌, ap, arith}
use Rattle.std.specs.Prelude.{AllPairs, count_by, filter, find, sum_by}
use Rattle.std.specs.List.{list_any, remove, AllByRecursion}
use Rattle.std.proofs.lemmas.Map.Keys.{any_passes_from_place}
use Rattle.std.proofs.lemmas.Bool.{eq-eqb, ne_eqb}
use Rattle.std.proofs.lemmas.List.Sums.{sum_by-cons}
use Rattle.lvm_num.specs.declared.descriptor.LvRow.{LvRow}
use Rattle.lvm_num.proofs.Pairs.{AllPairs-right}
use Rattle.lvm_num.proofs.Booleans.{not_so}
use Rattle.lvm_session.specs.Sound.{count_if}
use Rattle.lvm_keeps.proofs.Lists.{count_cons}

module _ {A : Type 0} where
  pub found : (t : A → Bool) (xs : List A) → list_any t xs ≡ true → (x : A) × (i : ℕ) × (slice_get xs i ≡ Some x) × (t x ≡ true)
  found t [] is = not_so is
  found t (x ∷ xs) is = by (t x) refl (λ e. found t xs e) is
    where
      by : (b : Bool) → t x ≡ b → (list_any t xs ≡ true → (y : A) × (i : ℕ) × (slice_get xs i ≡ Some y) × (t y ≡ true)) → b || list_any t xs ≡ true → (y : A) × (i : ℕ) × (slice_get (x ∷ xs) i ≡ Some y) × (t y ≡ true)
      by true e rest some = (x, zero, refl, e)
      by false e rest some = let one = rest some in (one.0, suc one.1, one.2, one.3)

  -- another test passes where the first one does
  pub any_on : (t u : A → Bool) → ((x : A) → t x ≡ true → u x ≡ true) → (xs : List A) → list_any t xs ≡ true → list_any u xs ≡ true
  any_on t u on xs some = let one = found t xs some in any_passes_from_place u xs one.1 one.0 one.2 (on one.0 one.3)

  -- so it is where something is known of each
  pub any_with : (P : A → Type 0) (t u : A → Bool) → ((x : A) → P x → t x ≡ true → u x ≡ true) → (xs : List A) → AllByRecursion P xs → list_any t xs ≡ true → list_any u xs ≡ true
  any_with P t u on [] all some = some
  any_with P t u on (x ∷ xs) all some = by (t x) (u x) (on x all.0) (λ e. any_with P t u on xs all.1 e) some
    where
      by : (a b : Bool) → (a ≡ true → b ≡ true) → (list_any t xs ≡ true → list_any u xs ≡ true) → a || list_any t xs ≡ true → b || list_any u xs ≡ true
      by true true here rest e = refl
      by true false here rest e = not_so (here refl)
      by false true here rest e = refl
      by false false here rest e = rest e

  -- fewer pass
  pub count_with : (P : A → Type 0) (t u : A → Bool) → ((x : A) → P x → u x ≡ true → t x ≡ true) → (xs : List A) → AllByRecursion P xs → count_by u xs ≤ count_by t xs
  count_with P t u on [] all = omega arith
  count_with P t u on (x ∷ xs) all = let a = count_cons u x xs in let b = count_cons t x xs in let one = by (u x) (t x) (on x all.0) in let rest = count_with P t u on xs all.1 in omega (arith, a, b, one, rest)
    where
      by : (a b : Bool) → (a ≡ true → b ≡ true) → count_if a ≤ count_if b
      by true true here = omega arith
      by true false here = not_so (here refl)
      by false b here = omega arith

  pub any_known : (xs : List A) → AllByRecursion (λ (x : A). Unit {0}) xs
  any_known [] = tt
  any_known (x ∷ xs) = (tt, any_known xs)

  -- as many pass
  pub count_alike : (t u : A → Bool) → ((x : A) → t x ≡ u x) → (xs : List A) → count_by t xs ≡ count_by u xs
  count_alike t u same [] = refl
  count_alike t u same (x ∷ xs) = let a = count_cons t x xs in let b = count_cons u x xs in let one : count_if (t x) ≡ count_if (u x) = ap count_if (same x) in let rest = count_alike t u same xs in omega (arith, a, b, one, rest)

  -- one passes no more
  pub count_less : (t u p : A → Bool) → ((x : A) → u x ≡ true → t x ≡ true) → ((x : A) → p x ≡ true → (t x ≡ true) × (u x ≡ false)) → (xs : List A) → list_any p xs ≡ true → count_by u xs + 1 ≤ count_by t xs
  count_less t u p less at [] is = not_so is
  count_less t u p less at (x ∷ xs) is = by (p x) refl (λ e. count_less t u p less at xs e) is
    where
      fewer : (a b : Bool) → (b ≡ true → a ≡ true) → count_if b ≤ count_if a
      fewer a false on = omega arith
      fewer a true on = let one : count_if a ≡ 1 = ap count_if (on refl) in omega (arith, one)

      by : (b : Bool) → p x ≡ b → (list_any p xs ≡ true → count_by u xs + 1 ≤ count_by t xs) → b || list_any p xs ≡ true → count_by u (x ∷ xs) + 1 ≤ count_by t (x ∷ xs)
      by true e rest some =
          let a = count_cons t x xs in
          let b = count_cons u x xs in
          let one : count_if (t x) ≡ 1 = ap count_if (at x e).0 in
          let none : count_if (u x) ≡ 0 = ap count_if (at x e).1 in
          let all = count_with (λ (y : A). Unit {0}) t u (λ y known. less y) xs (any_known xs) in
          omega (arith, a, b, one, none, all)
      by false e rest some = let a = count_cons t x xs in let b = count_cons u x xs in let one = fewer (t x) (u x) (less x) in let more = rest some in omega (arith, a, b, one, more)

  -- where some are kept, one passes
  pub some_kept : (t : A → Bool) (xs : List A) → (length (filter t xs) == 0) ≡ false → list_any t xs ≡ true
  some_kept t [] some = not_so (sym some)
  some_kept t (x ∷ xs) some = by (t x) (λ e. some_kept t xs e) some
    where
      by : (b : Bool) → ((length (filter t xs) == 0) ≡ false → list_any t xs ≡ true) → (length (if b then x ∷ filter t xs else filter t xs) == 0) ≡ false → b || list_any t xs ≡ true
      by true rest e = refl
      by false rest e = rest e

  -- less or as much of each
  pub sum_on : (f g : A → ℕ) → ((x : A) → g x ≤ f x) → (xs : List A) → sum_by g xs ≤ sum_by f xs
  sum_on f g less [] = omega arith
  sum_on f g less (x ∷ xs) = let a = sum_by-cons g x xs in let b = sum_by-cons f x xs in let one = less x in let rest = sum_on f g less xs in omega (arith, a, b, one, rest)

  pub length_taken : (xs : List A) (k : ℕ) (x : A) → slice_get xs k ≡ Some x → length (remove xs k) + 1 ≡ length xs
  length_taken [] k x at = absurd (cc at)
  length_taken (y ∷ xs) zero x at = omega arith
  length_taken (y ∷ xs) (suc k) x at = let rest = length_taken xs k x at in omega (arith, rest)

  there : (xs : List A) (i : ℕ) (x d : A) → slice_get xs i ≡ Some x → (i < length xs) × (get_or xs i d ≡ x)
  there [] i x d at = absurd (cc at)
  there (y ∷ xs) zero x d at = (omega arith, cc at)
  there (y ∷ xs) (suc i) x d at = let rest = there xs i x d at in let low = rest.0 in (omega (arith, low), rest.1)

-- a volume is found by its number
pub row_found : (rows : List LvRow) (i : ℕ) (row : LvRow) → AllPairs (λ (a b : LvRow). a.number < b.number) rows → slice_get rows i ≡ Some row → find (λ (r : LvRow). r.number == row.number) rows ≡ Some row
row_found [] i row rise at = absurd (cc at)
row_found (r ∷ rows) zero row rise at =
    let same : r ≡ row = cc at in
    ap (λ b. if b then Some r else find (λ (x : LvRow). x.number == row.number) rows) (eq-eqb r.number row.number (ap (λ (x : LvRow). x.number) same)) ∙ ap (λ (x : LvRow). Some x) same
row_found (r ∷ rows) (suc i) row rise at =
    ap (λ b. if b then Some r else find (λ (x : LvRow). x.number == row.number) rows) (ne_eqb r.number row.number (λ e. absurd (omega (arith, less, its, e))))
    ∙ row_found rows i row (AllPairs-right (λ (a b : LvRow). a.number < b.number) (r ∷ []) rows rise) at
  where
    one : (i < length rows) × (get_or rows i row ≡ row)
    one = there rows i row row at

    less : r.number < (get_or rows i row).number
    less = let low = one.0 in rise 0 (suc i) row (omega arith) (omega (arith, low))

    its : (get_or rows i row).number ≡ row.number
    its = ap (λ (x : LvRow). x.number) one.1
