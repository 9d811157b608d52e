-- The copies of a group and of one in which a copy stands on another partition.
use Rattle.std.proofs.Common.{◌≡◌, ◌⊎◌, inl, inr, ⊎_elim, ◌&&◌, ◌==◌, ◌≤◌, ◌<◌, ◌+◌, ◌*◌, ◌-◌, ℕ, zero, suc, Bool, true, false, if◌then◌else◌, List, [], ◌∷◌, Option, Some, None, map, length, take, drop, refl, sym, ap, subst, ◌∙◌, arith}
use Rattle.std.specs.Prelude.{AllPairs, IsFalse, find, option_map, slice_get, slice_set}
use Rattle.std.proofs.lemmas.Bool.{cases_lt, eq-eqb, eqb-true, ne_eqb}
use Rattle.std.proofs.Math.Nat.{mul-le-mul_right}
use Rattle.lvm_num.specs.declared.descriptor.Descriptor.{Descriptor}
use Rattle.lvm_num.specs.declared.descriptor.LvRow.{LvRow}
use Rattle.lvm_num.specs.declared.place.Pp.{Pp}
use Rattle.lvm_num.specs.Descriptor.{IsLaidOut, IsValid, copies_of, is_pp, volume_of}
use Rattle.lvm_num.proofs.Booleans.{clash_gives}
use Rattle.lvm_num.proofs.Lists.{pairs_tail}
use Rattle.lvm_num.proofs.DescriptorLemmas.Partitions.{same_partition}
use Rattle.lvm_num.proofs.MarksLemmas.Maps.{find-Some}
use Rattle.lvm_kept.specs.Group.{IsOneOf}
use Rattle.lvm_kept.proofs.ChangesLemmas.Entries.{volume_is_row}
use Rattle.lvm_steps.specs.Committing.{DiffersInVolume}
use Rattle.lvm_crash.proofs.CopiesLemmas.{number_finds, one_at}
use Rattle.lvm_moved.specs.Moved.{MayStandOn, moved_descriptor, moved_row, place_in_map, with_copy_on}
use Rattle.lvm_move_laws.specs.Moving.{AreMoved, HasMoved, MovesIn}
use Rattle.lvm_move_tie.specs.Moved.{MovedMovesIn}

-- ---- a list of copies in which one is another

abbrev Apart : List Pp → Type 0
Apart ps = AllPairs (λ (a b : Pp). a.disk ≡ b.disk → ⊥) ps

-- the first stands on another disk than one behind it
apart_head : (x : Pp) (ps : List Pp) (q : Pp) → Apart (x ∷ ps) → IsOneOf ps q → x.disk ≡ q.disk → ⊥
apart_head x ps q apart one same =
    let at = one_at ps q one in
    let lt : at.0 < length ps = at.1 in
    apart 0 (suc at.0) x (omega arith) (omega (arith, lt)) (same ∙ ap (λ (p : Pp). p.disk) (sym (at.2 x)))

no_pp : (a b : Pp) → (a.disk ≡ b.disk → ⊥) → IsFalse (is_pp a b)
no_pp a b apart = ap (λ (t : Bool). t && a.pp == b.pp) (ne_eqb a.disk b.disk apart)

pub one_of_place : (ps : List Pp) (j : ℕ) (p : Pp) → slice_get ps j ≡ Some p → IsOneOf ps p
one_of_place [] j p at = absurd (cc at)
one_of_place (y ∷ ps) zero p at = let e : y ≡ p = cc at in inl (sym e)
one_of_place (y ∷ ps) (suc j) p at = inr (one_of_place ps j p at)

-- one of them is that partition, or another one of those before
set_here : (ps : List Pp) (j : ℕ) (from to p : Pp) → slice_get ps j ≡ Some from → Apart ps → IsOneOf (slice_set ps j to) p → (p ≡ to) ⊎ (IsOneOf ps p × IsFalse (is_pp p from))
set_here [] j from to p at apart one = absurd (cc at)
set_here (y ∷ ps) zero from to p at apart (inl is) = inl is
set_here (y ∷ ps) zero from to p at apart (inr one) =
    let e : y ≡ from = cc at in
    inr (inr one, no_pp p from (λ same. apart_head y ps p apart one (ap (λ (q : Pp). q.disk) e ∙ sym same)))
set_here (y ∷ ps) (suc j) from to p at apart (inl is) =
    inr (inl is, no_pp p from (λ same. apart_head y ps from apart (one_of_place ps j from at) (ap (λ (q : Pp). q.disk) (sym is) ∙ same)))
set_here (y ∷ ps) (suc j) from to p at apart (inr one) = ⊎_elim
    (λ (is : p ≡ to). inl is)
    (λ (was : IsOneOf ps p × IsFalse (is_pp p from)). inr (inr was.0, was.1))
    (set_here ps j from to p at (pairs_tail (λ (a b : Pp). a.disk ≡ b.disk → ⊥) y ps apart) one)

-- that partition is
set_comes : (ps : List Pp) (j : ℕ) (from to : Pp) → slice_get ps j ≡ Some from → IsOneOf (slice_set ps j to) to
set_comes [] j from to at = absurd (cc at)
set_comes (y ∷ ps) zero from to at = inl refl
set_comes (y ∷ ps) (suc j) from to at = inr (set_comes ps j from to at)

-- and each other one stays
set_stays : (ps : List Pp) (j : ℕ) (from to p : Pp) → slice_get ps j ≡ Some from → IsOneOf ps p → IsFalse (is_pp p from) → IsOneOf (slice_set ps j to) p
set_stays [] j from to p at one off = absurd one
set_stays (y ∷ ps) zero from to p at (inl is) off = let e : y ≡ from = cc at in clash_gives (is_pp p from) (same_partition p from (is ∙ e)) off
set_stays (y ∷ ps) zero from to p at (inr one) off = inr one
set_stays (y ∷ ps) (suc j) from to p at (inl is) off = inl is
set_stays (y ∷ ps) (suc j) from to p at (inr one) off = inr (set_stays ps j from to p at one off)

-- ---- a part of a list in which one is another

-- in the part that has its place it is so at the place in that part
within_take : (k j : ℕ) (xs : List Pp) (x : Pp) → j < k → take k (slice_set xs j x) ≡ slice_set (take k xs) j x
within_take zero j xs x low = absurd (omega (arith, low))
within_take (suc k) j [] x low = refl
within_take (suc k) zero (y ∷ ys) x low = refl
within_take (suc k) (suc j) (y ∷ ys) x low = ap (λ (zs : List Pp). y ∷ zs) (within_take k j ys x (omega (arith, low)))

within : (a k j m : ℕ) (xs : List Pp) (x : Pp) → m ≡ a + j → j < k → take k (drop a (slice_set xs m x)) ≡ slice_set (take k (drop a xs)) j x
within zero k j m xs x at low = let e : m ≡ j = omega (arith, at) in ap (λ n. take k (slice_set xs n x)) e ∙ within_take k j xs x low
within (suc a) zero j m [] x at low = absurd (omega (arith, low))
within (suc a) (suc k) j m [] x at low = refl
within (suc a) k j zero (y ∷ ys) x at low = absurd (omega (arith, at))
within (suc a) k j (suc m) (y ∷ ys) x at low = within a k j m ys x (omega (arith, at)) low

-- any other part is as it was
front_same : (k j : ℕ) (xs : List Pp) (x : Pp) → k ≤ j → take k (slice_set xs j x) ≡ take k xs
front_same zero j xs x far = refl
front_same (suc k) j [] x far = refl
front_same (suc k) zero (y ∷ ys) x far = absurd (omega (arith, far))
front_same (suc k) (suc j) (y ∷ ys) x far = ap (λ (zs : List Pp). y ∷ zs) (front_same k j ys x (omega (arith, far)))

before_same : (a k j : ℕ) (xs : List Pp) (x : Pp) → a + k ≤ j → take k (drop a (slice_set xs j x)) ≡ take k (drop a xs)
before_same zero k j xs x far = front_same k j xs x (omega (arith, far))
before_same (suc a) k j [] x far = refl
before_same (suc a) k zero (y ∷ ys) x far = absurd (omega (arith, far))
before_same (suc a) k (suc j) (y ∷ ys) x far = before_same a k j ys x (omega (arith, far))

behind_same : (a j : ℕ) (xs : List Pp) (x : Pp) → j < a → drop a (slice_set xs j x) ≡ drop a xs
behind_same zero j xs x near = absurd (omega (arith, near))
behind_same (suc a) j [] x near = refl
behind_same (suc a) zero (y ∷ ys) x near = refl
behind_same (suc a) (suc j) (y ∷ ys) x near = behind_same a j ys x (omega (arith, near))

-- ---- the rows

one_mapped : {X : Type 0} (f : X → X) (xs : List X) (y : X) → IsOneOf (map f xs) y → (x : X) × IsOneOf xs x × (y ≡ f x)
one_mapped f [] y one = absurd one
one_mapped f (x ∷ xs) y (inl is) = (x, inl refl, is)
one_mapped f (x ∷ xs) y (inr one) = let at = one_mapped f xs y one in (at.0, inr at.1, at.2)

maps_one : {X : Type 0} (f : X → X) (xs : List X) (x : X) → IsOneOf xs x → IsOneOf (map f xs) (f x)
maps_one f [] x one = absurd one
maps_one f (y ∷ xs) x (inl is) = inl (ap f is)
maps_one f (y ∷ xs) x (inr one) = inr (maps_one f xs x one)

module _ (lv lp number : ℕ) (to : Pp) where
  abbrev f : LvRow → LvRow
  f row = moved_row lv lp number to row

  by_row : (P : LvRow → LvRow → Type 0) → ((row : LvRow) → row.number == lv ≡ false → P row row) → ((row : LvRow) → row.number ≡ lv → P row (with_copy_on row lp number to)) → (row : LvRow) → P row (f row)
  by_row P same its row = by (row.number == lv) refl
    where
      by : (b : Bool) → (row.number == lv) ≡ b → P row (if b then with_copy_on row lp number to else row)
      by true e = its row (eqb-true row.number lv e)
      by false e = same row e

  same_number : (row : LvRow) → (f row).number ≡ row.number
  same_number = by_row (λ was is. is.number ≡ was.number) (λ row e. refl) (λ row e. refl)

  -- a volume of another number is as it was
  off : (row : LvRow) → (row.number ≡ lv → ⊥) → f row ≡ row
  off row apart = ap (λ (b : Bool). if b then with_copy_on row lp number to else row) (ne_eqb row.number lv apart)

  push : (b : Bool) (r : LvRow) (rest : Option LvRow) → (if b then Some (f r) else option_map f rest) ≡ option_map f (if b then Some r else rest)
  push true r rest = refl
  push false r rest = refl

  found_in : (rows : List LvRow) (n : ℕ) → find (λ (r : LvRow). r.number == n) (map f rows) ≡ option_map f (find (λ (r : LvRow). r.number == n) rows)
  found_in [] n = refl
  found_in (r ∷ rows) n = ap (λ (m : ℕ). if m == n then Some (f r) else find (λ (q : LvRow). q.number == n) (map f rows)) (same_number r)
      ∙ ap (λ (o : Option LvRow). if r.number == n then Some (f r) else o) (found_in rows n)
      ∙ push (r.number == n) r (find (λ (q : LvRow). q.number == n) rows)

  number_of : (rows : List LvRow) (n : ℕ) (row : LvRow) → find (λ (r : LvRow). r.number == n) rows ≡ Some row → row.number ≡ n
  number_of rows n row at = eqb-true row.number n (find-Some (λ (r : LvRow). r.number == n) rows row at).0

  pub differs_in : (d : Descriptor) → DiffersInVolume lv d (moved_descriptor d lv lp number to)
  differs_in d = record {
    alone = refl;
    rows = λ row one apart.
        let at = one_mapped f d.lvs row one in
        let is : f at.0 ≡ at.0 = off at.0 (λ e. apart (ap (λ (r : LvRow). r.number) at.2 ∙ same_number at.0 ∙ e)) in
        subst (IsOneOf d.lvs) (sym (at.2 ∙ is)) at.1;
    volumes = λ n apart. found_in d.lvs n ∙ by n apart (volume_of d n) refl;
  }
    where
      by : (n : ℕ) → (n ≡ lv → ⊥) → (m : Option LvRow) → volume_of d n ≡ m → option_map f m ≡ m
      by n apart None is = refl
      by n apart (Some row) is = ap (λ (r : LvRow). Some r) (off row (λ e. apart (sym (number_of d.lvs n row is) ∙ e)))

module _ (d : Descriptor) (lv lp number : ℕ) (from to : Pp) (valid : IsValid d) (may : MayStandOn d lv lp number to) (was : slice_get (copies_of may.row lp) (number - 1) ≡ Some from) where
  abbrev g : LvRow → LvRow
  g row = moved_row lv lp number to row

  abbrev its : LvRow
  its = may.row

  -- of its number there is one volume
  is_its : (row : LvRow) → IsOneOf d.lvs row → row.number ≡ lv → row ≡ its
  is_its row one same = let e : Some row ≡ Some its = sym (number_finds d row valid one) ∙ ap (volume_of d) same ∙ may.volume in cc

  one_its : IsOneOf d.lvs its
  one_its = volume_is_row d lv its may.volume

  laid : IsLaidOut its
  laid = let at = one_at d.lvs its one_its in subst IsLaidOut (at.2 its) (valid.maps.laid_out at.0 its at.1)

  low : number - 1 < its.copies
  low = let some = may.some in let few = may.copy in omega (arith, some, few)

  copies_now : copies_of (with_copy_on its lp number to) lp ≡ slice_set (copies_of its lp) (number - 1) to
  copies_now = within (lp * its.copies) its.copies (number - 1) (place_in_map its lp number) its.map to refl low

  -- those of another logical partition are as they were
  others_now : (n : ℕ) → (n ≡ lp → ⊥) → copies_of (with_copy_on its lp number to) n ≡ copies_of its n
  others_now n apart =
      let some = may.some in
      let few = may.copy in
      elim (cases_lt n lp) [
        | inl below ↦ let step : suc n * its.copies ≤ lp * its.copies = mul-le-mul_right its.copies below in before_same (n * its.copies) its.copies (place_in_map its lp number) its.map to (omega (arith, step))
        | inr above ↦ elim (cases_lt lp n) [
          | inl past ↦ let step : suc lp * its.copies ≤ n * its.copies = mul-le-mul_right its.copies past in ap (take its.copies) (behind_same (n * its.copies) (place_in_map its lp number) its.map to (omega (arith, step, few, some)))
          | inr equal ↦ absurd (apart (omega (arith, above, equal)))
        ]
      ]

  moved_its : HasMoved lv lp from to its (with_copy_on its lp number to)
  moved_its = record {
    number = refl;
    lps = refl;
    mode = refl;
    here = λ same p one. set_here (copies_of its lp) (number - 1) from to p was (laid.strict lp may.within) (subst (λ (ps : List Pp). IsOneOf ps p) copies_now one);
    comes = λ same. subst (λ (ps : List Pp). IsOneOf ps to) (sym copies_now) (set_comes (copies_of its lp) (number - 1) from to was);
    stays = λ same p one off. subst (λ (ps : List Pp). IsOneOf ps p) (sym copies_now) (set_stays (copies_of its lp) (number - 1) from to p was one off);
    there = λ other p apart.
        let as_were = others_now other (λ e. apart (number_of lv lp number to d.lvs lv its may.volume, e)) in
        (λ one. subst (λ (ps : List Pp). IsOneOf ps p) as_were one, λ one. subst (λ (ps : List Pp). IsOneOf ps p) (sym as_were) one);
  }

  moved_other : (row : LvRow) → (row.number ≡ lv → ⊥) → HasMoved lv lp from to row row
  moved_other row apart = record {
    number = refl;
    lps = refl;
    mode = refl;
    here = λ same p one. absurd (apart same);
    comes = λ same. absurd (apart same);
    stays = λ same p one off. absurd (apart same);
    there = λ other p far. (λ one. one, λ one. one);
  }

  -- each has moved so
  moved_each : (row : LvRow) → IsOneOf d.lvs row → HasMoved lv lp from to row (g row)
  moved_each row one = by (row.number == lv) refl
    where
      by : (b : Bool) → (row.number == lv) ≡ b → HasMoved lv lp from to row (if b then with_copy_on row lp number to else row)
      by true e = subst (λ (r : LvRow). HasMoved lv lp from to r (with_copy_on r lp number to)) (sym (is_its row one (eqb-true row.number lv e))) moved_its
      by false e = moved_other row (λ same. clash_gives (row.number == lv) (ap (λ n. n == lv) same ∙ itself lv) e)
        where
          itself : (n : ℕ) → (n == n) ≡ true
          itself n = eq-eqb n n refl

  pub moves_in : MovesIn lv lp from to d (moved_descriptor d lv lp number to)
  moves_in = record {
    rows = λ new one. let at = one_mapped g d.lvs new one in (at.0, at.1, subst (HasMoved lv lp from to at.0) (sym at.2) (moved_each at.0 at.1));
    back = λ row one. (g row, maps_one g d.lvs row one, moved_each row one);
    numbers = λ n. by n (volume_of d n) refl;
  }
    where
      by : (n : ℕ) (m : Option LvRow) → volume_of d n ≡ m
          → ((volume_of d n ≡ None) × (volume_of (moved_descriptor d lv lp number to) n ≡ None)) ⊎ AreMoved lv lp from to d (moved_descriptor d lv lp number to) n
      by n None is = inl (is, found_in lv lp number to d.lvs n ∙ ap (option_map g) is)
      by n (Some row) is = inr (record { row = row; row_is = is; new = g row; new_is = found_in lv lp number to d.lvs n ∙ ap (option_map g) is; moved = moved_each row (volume_is_row d n row is) })

pub moved_moves_in : MovedMovesIn
moved_moves_in = record { moves = moves_in; differs = λ d lv lp number to. differs_in lv lp number to d }
