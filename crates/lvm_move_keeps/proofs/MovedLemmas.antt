-- The copies of a group and of one in which a copy stands on another partition.
use Rattle.std.proofs.Common.{◌≡◌, ◌⊎◌, inl, inr, ⊎_elim, ◌||◌, ◌==◌, ◌≤◌, ◌<◌, ◌+◌, ◌*◌, ◌-◌, ℕ, zero, suc, Bool, true, false, if◌then◌else◌, List, [], ◌∷◌, Option, Some, None, get_or, map, length, take, drop, refl, sym, ap, subst, ◌∙◌, arith}
use Rattle.std.specs.Prelude.{count_by, find, option_map, slice_set}
use Rattle.std.specs.Option.{option_map_or}
use Rattle.std.proofs.lemmas.Bool.{cases_lt, eqb-true, or_left, or_right}
use Rattle.std.proofs.Math.Nat.{mul-le-mul_right}
use Rattle.lvm_num.specs.declared.descriptor.Descriptor.{Descriptor}
use Rattle.lvm_num.specs.declared.descriptor.LvRow.{LvRow}
use Rattle.lvm_num.specs.declared.descriptor.Mode.{Mode}
use Rattle.lvm_num.specs.declared.place.Pp.{Pp}
use Rattle.lvm_num.specs.Descriptor.{IsLaidOut, IsValid, copies_of, is_pp, volume_of}
use Rattle.lvm_num.proofs.Booleans.{not_so}
use Rattle.lvm_num.proofs.MarksLemmas.Maps.{find-Some}
use Rattle.lvm_session.specs.Sound.{count_if}
use Rattle.lvm_moved.specs.Moved.{MayStandOn, moved_descriptor, moved_row, place_in_map, with_copy_on}
use Rattle.lvm_moved.proofs.MovedLemmas.{moved_is_valid, place_inside}
use Rattle.lvm_session.specs.Judging.{copies_in}
use Rattle.lvm_session.specs.Marks.{is_among}
use Rattle.lvm_keeps.proofs.Lists.{count_cons}
use Rattle.lvm_keeps_events.proofs.EndsLemmas.CopyReadFail.{pp_is}
use Rattle.lvm_keeps_events.proofs.JudgingLemmas.DuesMarks.{own_pp}
use Rattle.lvm_move_keeps.specs.Keeping.{HasMovedTo}
use Rattle.lvm_move_keeps.specs.Moved.{MovedHasMoved}

-- ---- a list with one place set

either : (a b : Bool) → a || b ≡ true → (a ≡ true) ⊎ (b ≡ true)
either true b e = inl refl
either false b e = inr e

-- what stands in a part of it stood there, or is what was set
goes_set : (a k j : ℕ) (xs : List Pp) (x p : Pp) → is_among (take k (drop a (slice_set xs j x))) p ≡ true → (is_among (take k (drop a xs)) p ≡ true) ⊎ (p ≡ x)
goes_set (suc a) zero j [] x p e = not_so e
goes_set (suc a) (suc k) j [] x p e = not_so e
goes_set (suc a) k zero (y ∷ ys) x p e = inl e
goes_set (suc a) k (suc j) (y ∷ ys) x p e = goes_set a k j ys x p e
goes_set zero zero j xs x p e = not_so e
goes_set zero (suc k) j [] x p e = not_so e
goes_set zero (suc k) zero (y ∷ ys) x p e = ⊎_elim (λ (is : is_pp p x ≡ true). inr (sym (pp_is p x is))) (λ rest. inl (or_right (is_pp p y) (is_among (take k ys) p) rest)) (either (is_pp p x) (is_among (take k ys) p) e)
goes_set zero (suc k) (suc j) (y ∷ ys) x p e = ⊎_elim
    (λ is. inl (or_left (is_pp p y) (is_among (take k ys) p) is))
    (λ rest. ⊎_elim (λ was. inl (or_right (is_pp p y) (is_among (take k ys) p) was)) (λ to. inr to) (goes_set zero k j ys x p rest))
    (either (is_pp p y) (is_among (take k (slice_set ys j x)) p) e)

-- a part beside it is as it was
same_front : (k j : ℕ) (xs : List Pp) (x : Pp) → k ≤ j → take k (slice_set xs j x) ≡ take k xs
same_front zero j xs x far = refl
same_front (suc k) j [] x far = refl
same_front (suc k) zero (y ∷ ys) x far = absurd (omega (arith, far))
same_front (suc k) (suc j) (y ∷ ys) x far = ap (λ (zs : List Pp). y ∷ zs) (same_front k j ys x (omega (arith, far)))

same_before : (a k j : ℕ) (xs : List Pp) (x : Pp) → a + k ≤ j → take k (drop a (slice_set xs j x)) ≡ take k (drop a xs)
same_before zero k j xs x far = same_front k j xs x (omega (arith, far))
same_before (suc a) k j [] x far = refl
same_before (suc a) k zero (y ∷ ys) x far = absurd (omega (arith, far))
same_before (suc a) k (suc j) (y ∷ ys) x far = same_before a k j ys x (omega (arith, far))

same_behind : (a j : ℕ) (xs : List Pp) (x : Pp) → j < a → drop a (slice_set xs j x) ≡ drop a xs
same_behind zero j xs x near = absurd (omega (arith, near))
same_behind (suc a) j [] x near = refl
same_behind (suc a) zero (y ∷ ys) x near = refl
same_behind (suc a) (suc j) (y ∷ ys) x near = same_behind a j ys x (omega (arith, near))

-- and what was set stands in the part that has its place
here_front : (k j : ℕ) (xs : List Pp) (x : Pp) → j < k → j < length xs → is_among (take k (slice_set xs j x)) x ≡ true
here_front zero j xs x low within = absurd (omega (arith, low))
here_front (suc k) j [] x low within = absurd (omega (arith, within))
here_front (suc k) zero (y ∷ ys) x low within = or_left (is_pp x x) (is_among (take k ys) x) (own_pp x)
here_front (suc k) (suc j) (y ∷ ys) x low within = or_right (is_pp x y) (is_among (take k (slice_set ys j x)) x) (here_front k j ys x (omega (arith, low)) (omega (arith, within)))

here_set : (a k j m : ℕ) (xs : List Pp) (x : Pp) → m ≡ a + j → j < k → m < length xs → is_among (take k (drop a (slice_set xs m x))) x ≡ true
here_set zero k j m xs x at low within = here_front k m xs x (omega (arith, at, low)) within
here_set (suc a) k j m [] x at low within = absurd (omega (arith, within))
here_set (suc a) k j zero (y ∷ ys) x at low within = absurd (omega (arith, at))
here_set (suc a) k j (suc m) (y ∷ ys) x at low within = here_set a k j m ys x (omega (arith, at)) low (omega (arith, within))

-- ---- the volumes

module _ (d : Descriptor) (lv lp number : ℕ) (to : Pp) (valid : IsValid d) (may : MayStandOn d lv lp number to) where
  abbrev next : Descriptor
  next = moved_descriptor d lv lp number to

  abbrev f : LvRow → LvRow
  f row = moved_row lv lp number to row

  -- its number and what else the moved volume has
  by_row : (P : LvRow → LvRow → Type 0) → ((row : LvRow) → P row row) → ((row : LvRow) → row.number ≡ lv → P row (with_copy_on row lp number to)) → (row : LvRow) → P row (f row)
  by_row P same its row = by (row.number == lv) refl
    where
      by : (b : Bool) → (row.number == lv) ≡ b → P row (if b then with_copy_on row lp number to else row)
      by true e = its row (eqb-true row.number lv e)
      by false e = same row

  same_number : (row : LvRow) → (f row).number ≡ row.number
  same_number = by_row (λ was is. is.number ≡ was.number) (λ row. refl) (λ row e. refl)

  push : (b : Bool) (r : LvRow) (rest : Option LvRow) → (if b then Some (f r) else option_map f rest) ≡ option_map f (if b then Some r else rest)
  push true r rest = refl
  push false r rest = refl

  found_in : (rows : List LvRow) (n : ℕ) → find (λ (r : LvRow). r.number == n) (map f rows) ≡ option_map f (find (λ (r : LvRow). r.number == n) rows)
  found_in [] n = refl
  found_in (r ∷ rows) n = ap (λ (m : ℕ). if m == n then Some (f r) else find (λ (q : LvRow). q.number == n) (map f rows)) (same_number r)
      ∙ ap (λ (o : Option LvRow). if r.number == n then Some (f r) else o) (found_in rows n)
      ∙ push (r.number == n) r (find (λ (q : LvRow). q.number == n) rows)

  volume_is : (n : ℕ) → volume_of next n ≡ option_map f (volume_of d n)
  volume_is n = found_in d.lvs n

  copies_is : (l n : ℕ) → copies_in next l n ≡ option_map_or (λ (row : LvRow). copies_of (f row) n) (volume_of d l) []
  copies_is l n = ap (λ m. option_map_or (λ (row : LvRow). copies_of row n) m []) (volume_is l) ∙ by (volume_of d l)
    where
      by : (m : Option LvRow) → option_map_or (λ (row : LvRow). copies_of row n) (option_map f m) [] ≡ option_map_or (λ (row : LvRow). copies_of (f row) n) m []
      by None = refl
      by (Some row) = refl

  goes : (l n : ℕ) (p : Pp) → is_among (copies_in next l n) p ≡ true → (is_among (copies_in d l n) p ≡ true) ⊎ (p ≡ to)
  goes l n p among = by (volume_of d l) (ap (λ ps. is_among ps p) (sym (copies_is l n)) ∙ among)
    where
      by : (m : Option LvRow) → is_among (option_map_or (λ (row : LvRow). copies_of (f row) n) m []) p ≡ true → (is_among (option_map_or (λ (row : LvRow). copies_of row n) m []) p ≡ true) ⊎ (p ≡ to)
      by None e = not_so e
      by (Some row) e = by_row (λ was is. is_among (copies_of is n) p ≡ true → (is_among (copies_of was n) p ≡ true) ⊎ (p ≡ to)) (λ r it. inl it)
          (λ r its it. goes_set (n * r.copies) r.copies (place_in_map r lp number) r.map to p it) row e

  -- elsewhere the copies are as they were, and the volume of the copy has the partition
  comes : (l n : ℕ) (p : Pp) → is_among (copies_in d l n) p ≡ true → (is_among (copies_in next l n) p ≡ true) ⊎ ((l ≡ lv) × (n ≡ lp))
  comes l n p among = by (volume_of d l) refl among
    where
      back : (m : Option LvRow) → volume_of d l ≡ m → is_among (option_map_or (λ (row : LvRow). copies_of (f row) n) m []) p ≡ true → is_among (copies_in next l n) p ≡ true
      back m at e = ap (λ ps. is_among ps p) (copies_is l n ∙ ap (λ o. option_map_or (λ (row : LvRow). copies_of (f row) n) o []) at) ∙ e

      in_row : (row : LvRow) → volume_of d l ≡ Some row → is_among (copies_of row n) p ≡ true → (is_among (copies_of (f row) n) p ≡ true) ⊎ ((l ≡ lv) × (n ≡ lp))
      in_row row at e = by_test (row.number == lv) refl
        where
          its_number : row.number ≡ l
          its_number = eqb-true row.number l (find-Some (λ (r : LvRow). r.number == l) d.lvs row at).0

          before : n < lp → copies_of (with_copy_on row lp number to) n ≡ copies_of row n
          before below = let step : suc n * row.copies ≤ lp * row.copies = mul-le-mul_right row.copies below in same_before (n * row.copies) row.copies (place_in_map row lp number) row.map to (omega (arith, step))

          behind : l ≡ lv → lp < n → copies_of (with_copy_on row lp number to) n ≡ copies_of row n
          behind its past =
              let the_row : may.row ≡ row = cc (sym may.volume ∙ ap (volume_of d) (sym its) ∙ at) in
              let few : number ≤ row.copies = subst (λ (x : LvRow). number ≤ x.copies) the_row may.copy in
              let some = may.some in
              let step : suc lp * row.copies ≤ n * row.copies = mul-le-mul_right row.copies past in
              ap (take row.copies) (same_behind (n * row.copies) (place_in_map row lp number) row.map to (omega (arith, step, few, some)))

          by_test : (b : Bool) → (row.number == lv) ≡ b → (is_among (copies_of (if b then with_copy_on row lp number to else row) n) p ≡ true) ⊎ ((l ≡ lv) × (n ≡ lp))
          by_test false other = inl e
          by_test true same =
              let its : l ≡ lv = sym its_number ∙ eqb-true row.number lv same in
              elim (cases_lt n lp) [
                | inl below ↦ inl (ap (λ ps. is_among ps p) (before below) ∙ e)
                | inr above ↦ elim (cases_lt lp n) [
                  | inl past ↦ inl (ap (λ ps. is_among ps p) (behind its past) ∙ e)
                  | inr equal ↦ inr (its, omega (arith, above, equal))
                ]
              ]

      by : (m : Option LvRow) → volume_of d l ≡ m → is_among (option_map_or (λ (row : LvRow). copies_of row n) m []) p ≡ true → (is_among (copies_in next l n) p ≡ true) ⊎ ((l ≡ lv) × (n ≡ lp))
      by None at e = not_so e
      by (Some row) at e = ⊎_elim (λ is. inl (back (Some row) at is)) (λ its. inr its) (in_row row at e)

  -- ---- the partition is the copy

  its_row : ((may.row.number == lv) ≡ true) × ((k : ℕ) × (k < length d.lvs) × ((e : LvRow) → get_or d.lvs k e ≡ may.row))
  its_row = find-Some (λ (r : LvRow). r.number == lv) d.lvs may.row may.volume

  laid : IsLaidOut may.row
  laid = subst IsLaidOut (its_row.1.2 may.row) (valid.maps.laid_out its_row.1.0 may.row its_row.1.1)

  here : is_among (copies_in next lv lp) to ≡ true
  here =
      let low : number - 1 < may.row.copies = (let some = may.some in let few = may.copy in omega (arith, some, few)) in
      ap (λ ps. is_among ps to) (copies_is lv lp ∙ ap (λ m. option_map_or (λ (row : LvRow). copies_of (f row) lp) m []) may.volume)
      ∙ ap (λ b. is_among (copies_of (if b then with_copy_on may.row lp number to else may.row) lp) to) its_row.0
      ∙ here_set (lp * may.row.copies) may.row.copies (number - 1) (place_in_map may.row lp number) may.row.map to refl low (place_inside may.row lp number laid may.within may.some may.copy)

  -- ---- what else a volume has

  volumes : (n : ℕ) (row : LvRow) → volume_of d n ≡ Some row → (new : LvRow) × (volume_of next n ≡ Some new) × (new.lps ≡ row.lps)
  volumes n row at = (f row, volume_is n ∙ ap (option_map f) at, by_row (λ was is. is.lps ≡ was.lps) (λ r. refl) (λ r e. refl) row)

  modes : (test : ℕ → Mode → Bool) (rows : List LvRow) → count_by (λ (row : LvRow). test row.number row.mode) (map f rows) ≡ count_by (λ (row : LvRow). test row.number row.mode) rows
  modes test [] = refl
  modes test (r ∷ rows) =
      let a = count_cons (λ (row : LvRow). test row.number row.mode) (f r) (map f rows) in
      let b = count_cons (λ (row : LvRow). test row.number row.mode) r rows in
      let same : count_if (test (f r).number (f r).mode) ≡ count_if (test r.number r.mode) = by_row (λ was is. count_if (test is.number is.mode) ≡ count_if (test was.number was.mode)) (λ q. refl) (λ q e. refl) r in
      let rest = modes test rows in
      omega (arith, a, b, same, rest)

  pub has_moved : HasMovedTo lv lp to d next
  has_moved = record {
    valid = moved_is_valid d lv lp number to valid may;
    alike = refl;
    volumes = volumes;
    goes = goes;
    comes = comes;
    here = here;
    modes = λ test. modes test d.lvs;
  }

pub moved_has_moved : MovedHasMoved
moved_has_moved d lv lp number to valid may = has_moved d lv lp number to valid may
