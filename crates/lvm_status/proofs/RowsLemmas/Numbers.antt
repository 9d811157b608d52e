-- Numbers of volumes that rise, with one more and with one less.
use Rattle.std.proofs.Common.{◌≡◌, inl, inr, ℕ, suc, ◌+◌, ◌-◌, ◌<◌, ◌≤◌, Bool, true, false, ◌||◌, List, ◌∷◌, length, get_or, take, drop, refl, sym, ap, subst, ◌∙◌, arith, drop-cons, Ok, Err}
use Rattle.std.specs.Prelude.{◌==◌, if◌then◌else◌, insert, remove}
use Rattle.std.specs.List.{list_any}
use Rattle.std.specs.Ordering.{nat_cmp}
use Rattle.std.specs.List.Sorted.{IsBinarySearchResult}
use Rattle.std.proofs.lemmas.List.Sorted.{searched}
use Rattle.std.proofs.lemmas.Bool.{cases_lt, cases_eq, eq-eqb, ne_eqb}
use Rattle.std.proofs.lemmas.Bool.Decides.{eqb_tells}
use Rattle.std.proofs.lemmas.List.{take-append-drop, get_or_default}
use Rattle.std.proofs.lemmas.List.Edits.{length-insert, length-remove, get_or-insert_below, get_or-insert_at, get_or-insert_above, get_or-remove_below, get_or-remove_above}
use Rattle.std.proofs.lemmas.List.Elements.{All-append, All-cons, All-take, All-drop}
use Rattle.std.proofs.lemmas.List.Folds.{list_any_none, list_any-append, list_any_at}
use Rattle.std.proofs.lemmas.List.Quantifiers.{all_pairs_remove}
use Rattle.lvm_num.specs.Status.{IsVolumeNumber, AreDirty}
use Rattle.lvm_num.proofs.DescriptorLemmas.Bounds.{few_dirty}
use Rattle.lvm_status.specs.Rows.{SetsAmong}

-- the number stands at this place
pub record StandsAt (xs : List ℕ) (x place : ℕ) : Type 0 where
  pub within : place < length xs
  pub it : get_or xs place 0 ≡ x

-- the number doesn't stand there, and this is its place
pub record BelongsAt (xs : List ℕ) (x place : ℕ) : Type 0 where
  pub within : place ≤ length xs
  pub below : (k : ℕ) → k < place → get_or xs k 0 < x
  pub above : (k : ℕ) → place ≤ k → k < length xs → x < get_or xs k 0

pub never_falls : (xs : List ℕ) → AreDirty xs → (i j : ℕ) → i ≤ j → j < length xs → get_or xs i 0 ≤ get_or xs j 0
never_falls xs all i j le lt = elim (cases_eq i j) [
  | inl same ↦ omega (arith, ap (λ n. get_or xs n 0) same)
  | inr apart ↦ omega (arith, all.numbers_rise i j 0 (omega arith) lt)
]

-- what a search in them finds
pub found : (xs ys : List ℕ) (x place : ℕ) → ys ≡ xs → AreDirty xs → IsBinarySearchResult (λ y. nat_cmp y x) ys (Ok place) → StandsAt xs x place
found xs ys x place same all at =
    let here = searched xs x (Ok place) (subst (λ (zs : List ℕ). IsBinarySearchResult (λ y. nat_cmp y x) zs (Ok place)) same at) (never_falls xs all) in
    record { within = here.0; it = here.1 }

pub missed : (xs ys : List ℕ) (x place : ℕ) → ys ≡ xs → AreDirty xs → IsBinarySearchResult (λ y. nat_cmp y x) ys (Err place) → BelongsAt xs x place
missed xs ys x place same all at =
    let here = searched xs x (Err place) (subst (λ (zs : List ℕ). IsBinarySearchResult (λ y. nat_cmp y x) zs (Err place)) same at) (never_falls xs all) in
    record { within = here.0; below = here.1; above = here.2 }

-- ---- one more

rise-insert : (xs : List ℕ) (x i : ℕ) → AreDirty xs → BelongsAt xs x i → (a b : ℕ) → a < b → b < length (insert xs i x) → get_or (insert xs i x) a 0 < get_or (insert xs i x) b 0
rise-insert xs x i all at a b less lt =
    let size = length-insert xs i x at.within in
    elim (cases_lt b i) [
      | inl b-below ↦
          let a-is = get_or-insert_below xs i x 0 a (omega arith) at.within in
          let b-is = get_or-insert_below xs i x 0 b b-below at.within in
          omega (arith, a-is, b-is, all.numbers_rise a b 0 less (omega (arith, at.within)))
      | inr b-past ↦ elim (cases_eq b i) [
        | inl b-here ↦
            let a-is = get_or-insert_below xs i x 0 a (omega arith) at.within in
            let b-is : get_or (insert xs i x) b 0 ≡ x = ap (λ n. get_or (insert xs i x) n 0) b-here ∙ get_or-insert_at xs i x 0 at.within in
            omega (arith, a-is, b-is, at.below a (omega arith))
        | inr b-behind ↦
            let b-is : get_or (insert xs i x) b 0 ≡ get_or xs (b - 1) 0 =
            ap (λ n. get_or (insert xs i x) n 0) (let e : b ≡ (b - 1) + 1 = omega arith in e) ∙ get_or-insert_above xs i x 0 (b - 1) (omega arith) at.within in
            let b-lt : b - 1 < length xs = omega (arith, size, lt) in
            elim (cases_lt a i) [
              | inl a-below ↦
                  let a-is = get_or-insert_below xs i x 0 a a-below at.within in
                  omega (arith, a-is, b-is, all.numbers_rise a (b - 1) 0 (omega arith) b-lt)
              | inr a-past ↦ elim (cases_eq a i) [
                | inl a-here ↦
                    let a-is : get_or (insert xs i x) a 0 ≡ x = ap (λ n. get_or (insert xs i x) n 0) a-here ∙ get_or-insert_at xs i x 0 at.within in
                    omega (arith, a-is, b-is, at.above (b - 1) (omega arith) b-lt)
                | inr a-behind ↦
                    let a-is : get_or (insert xs i x) a 0 ≡ get_or xs (a - 1) 0 =
                    ap (λ n. get_or (insert xs i x) n 0) (let e : a ≡ (a - 1) + 1 = omega arith in e) ∙ get_or-insert_above xs i x 0 (a - 1) (omega arith) at.within in
                    omega (arith, a-is, b-is, all.numbers_rise (a - 1) (b - 1) 0 (omega arith) b-lt)
              ]
            ]
      ]
    ]

pub dirty-insert : (xs : List ℕ) (x i : ℕ) → AreDirty xs → IsVolumeNumber x → BelongsAt xs x i → AreDirty (insert xs i x)
dirty-insert xs x i all here at = record {
  each = All-append IsVolumeNumber (take i xs) (x ∷ drop i xs) (All-take IsVolumeNumber i xs all.each) (All-cons IsVolumeNumber x (drop i xs) here (All-drop IsVolumeNumber i xs all.each));
  numbers_rise = λ a b d less lt.
      let ys = insert xs i x in
      let a-is = get_or_default ys a d 0 (omega arith) in
      let b-is = get_or_default ys b d 0 lt in
      omega (arith, a-is, b-is, rise-insert xs x i all at a b less lt);
}

-- there is room for one that isn't there
pub room : (xs : List ℕ) (x i : ℕ) → AreDirty xs → IsVolumeNumber x → BelongsAt xs x i → length xs < 511
room xs x i all here at = omega (arith, few_dirty (insert xs i x) (dirty-insert xs x i all here at), length-insert xs i x at.within)

-- ---- one less

pub dirty-remove : (xs : List ℕ) (x i : ℕ) → AreDirty xs → StandsAt xs x i → AreDirty (remove xs i)
dirty-remove xs x i all at = record {
  each = All-append IsVolumeNumber (take i xs) (drop (suc i) xs) (All-take IsVolumeNumber i xs all.each) (All-drop IsVolumeNumber (suc i) xs all.each);
  numbers_rise = all_pairs_remove (λ a b. a < b) xs i at.within all.numbers_rise;
}

-- ---- which numbers are among them

or_swap : (a b c : Bool) → a || (b || c) ≡ b || (a || c)
or_swap true true c = refl
or_swap true false c = refl
or_swap false b c = refl

any-insert : (p : ℕ → Bool) (xs : List ℕ) (i x : ℕ) → list_any p (insert xs i x) ≡ p x || list_any p xs
any-insert p xs i x =
    list_any-append p (take i xs) (x ∷ drop i xs)
    ∙ or_swap (list_any p (take i xs)) (p x) (list_any p (drop i xs))
    ∙ ap (λ b. p x || b) (sym (list_any-append p (take i xs) (drop i xs)) ∙ ap (list_any p) (take-append-drop i xs))

any-remove : (p : ℕ → Bool) (xs : List ℕ) (i : ℕ) → i < length xs → p (get_or xs i 0) || list_any p (remove xs i) ≡ list_any p xs
any-remove p xs i lt =
    ap (λ b. p (get_or xs i 0) || b) (list_any-append p (take i xs) (drop (suc i) xs))
    ∙ or_swap (p (get_or xs i 0)) (list_any p (take i xs)) (list_any p (drop (suc i) xs))
    ∙ ap (λ (ys : List ℕ). list_any p (take i xs) || list_any p ys) (sym (drop-cons xs i 0 lt))
    ∙ sym (list_any-append p (take i xs) (drop i xs))
    ∙ ap (list_any p) (take-append-drop i xs)

pub sets-insert : (xs : List ℕ) (x i : ℕ) (is : Bool) → is ≡ true → SetsAmong xs (insert xs i x) x is
sets-insert xs x i is yes_is n = elim (eqb_tells n x) [
  | inl same ↦
      any-insert (λ m. m == n) xs i x ∙ ap (λ b. b || list_any (λ m. m == n) xs) (eq-eqb x n (sym same.1)) ∙ sym yes_is
      ∙ ap (λ b. if b then is else list_any (λ m. m == n) xs) (sym same.0)
  | inr apart ↦
      any-insert (λ m. m == n) xs i x ∙ ap (λ b. b || list_any (λ m. m == n) xs) (ne_eqb x n (λ e. apart.1 (sym e)))
      ∙ ap (λ b. if b then is else list_any (λ m. m == n) xs) (sym apart.0)
]

-- none of the others is the one that was taken out
gone : (xs : List ℕ) (x i : ℕ) → AreDirty xs → StandsAt xs x i → list_any (λ m. m == x) (remove xs i) ≡ false
gone xs x i all at =
    list_any_none (λ m. m == x) (remove xs i)
    (λ k d lt.
    let size = length-remove xs i at.within in
    let k-is = get_or_default (remove xs i) k d 0 lt in
    elim (cases_lt k i) [
      | inl below ↦
          let here = get_or-remove_below xs i 0 k below at.within in
          ne_eqb (get_or (remove xs i) k d) x (λ e. absurd (omega (arith, e, k-is, here, at.it, all.numbers_rise k i 0 below at.within)))
      | inr past ↦
          let here = get_or-remove_above xs i 0 k past at.within in
          ne_eqb (get_or (remove xs i) k d) x (λ e. absurd (omega (arith, e, k-is, here, at.it, all.numbers_rise i (k + 1) 0 (omega arith) (omega (arith, size, lt)))))
    ])

pub sets-remove : (xs : List ℕ) (x i : ℕ) (is : Bool) → AreDirty xs → StandsAt xs x i → is ≡ false → SetsAmong xs (remove xs i) x is
sets-remove xs x i is all at no_is n = elim (eqb_tells n x) [
  | inl same ↦
      ap (λ v. list_any (λ m. m == v) (remove xs i)) same.1 ∙ gone xs x i all at ∙ sym no_is
      ∙ ap (λ b. if b then is else list_any (λ m. m == n) xs) (sym same.0)
  | inr apart ↦
      ap (λ b. b || list_any (λ m. m == n) (remove xs i)) (sym (ne_eqb (get_or xs i 0) n (λ e. apart.1 (sym e ∙ at.it))))
      ∙ any-remove (λ m. m == n) xs i at.within
      ∙ ap (λ b. if b then is else list_any (λ m. m == n) xs) (sym apart.0)
]

-- where it is as it is to be, nothing changes
pub sets-there : (xs : List ℕ) (x i : ℕ) (is : Bool) → StandsAt xs x i → is ≡ true → SetsAmong xs xs x is
sets-there xs x i is at yes_is n = elim (eqb_tells n x) [
  | inl same ↦
      list_any_at (λ m. m == n) xs i 0 at.within (eq-eqb (get_or xs i 0) n (at.it ∙ sym same.1)) ∙ sym yes_is
      ∙ ap (λ b. if b then is else list_any (λ m. m == n) xs) (sym same.0)
  | inr apart ↦ ap (λ b. if b then is else list_any (λ m. m == n) xs) (sym apart.0)
]

pub sets-absent : (xs : List ℕ) (x i : ℕ) (is : Bool) → BelongsAt xs x i → is ≡ false → SetsAmong xs xs x is
sets-absent xs x i is at no_is n = elim (eqb_tells n x) [
  | inl same ↦
      list_any_none (λ m. m == n) xs
      (λ k d lt.
      let k-is = get_or_default xs k d 0 lt in
      elim (cases_lt k i) [
        | inl below ↦ ne_eqb (get_or xs k d) n (λ e. absurd (omega (arith, e, k-is, same.1, at.below k below)))
        | inr past ↦ ne_eqb (get_or xs k d) n (λ e. absurd (omega (arith, e, k-is, same.1, at.above k past lt)))
      ])
      ∙ sym no_is ∙ ap (λ b. if b then is else list_any (λ m. m == n) xs) (sym same.0)
  | inr apart ↦ ap (λ b. if b then is else list_any (λ m. m == n) xs) (sym apart.0)
]
