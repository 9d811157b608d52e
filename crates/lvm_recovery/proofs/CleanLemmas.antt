-- Which volumes stay dirty once the usable copies of all are equal.
use Rattle.std.proofs.Common.{◌≡◌, ◌⊎◌, inl, inr, ⊎_elim, ℕ, zero, suc, ◌+◌, ◌<◌, ◌≤◌, ◌==◌, ◌&&◌, ◌||◌, Bool, true, false, List, [], ◌∷◌, Some, None, length, filter, drop, take, slice_index_or, refl, sym, ap, subst, ◌∙◌, arith, add-one, eq-eqb}
use Rattle.std.specs.Prelude.{IsTrue, IsFalse, if◌then◌else◌, All}
use Rattle.std.specs.List.{list_any}
use Rattle.std.proofs.lemmas.Bool.{cases_lt, cases_Bool, eqb-true}
use Rattle.std.proofs.lemmas.List.{take_all, take_more}
use Rattle.std.proofs.lemmas.List.Folds.{list_any-append, list_any_at}
use Rattle.std.proofs.lemmas.List.Elements.{All-cons, All-nil}
use Rattle.std.proofs.lemmas.List.Kept.{AllPairs-filter}
use Rattle.lvm_num.specs.declared.place.Pp.{Pp}
use Rattle.lvm_num.specs.declared.descriptor.Mode.{Mode}
use Rattle.lvm_num.specs.declared.descriptor.Mode.TheVariants.{Active, Passive, Off}
use Rattle.lvm_num.specs.declared.descriptor.LvRow.{LvRow}
use Rattle.lvm_num.specs.declared.descriptor.Descriptor.{Descriptor}
use Rattle.lvm_num.specs.declared.status.Status.{Status}
use Rattle.lvm_num.specs.Disks.{Disks}
use Rattle.lvm_num.specs.Descriptor.{copies_of}
use Rattle.lvm_num.specs.Modes.{is_passive}
use Rattle.lvm_num.specs.Record.{Stamped}
use Rattle.lvm_num.specs.Status.{IsValidStatus, calls_dirty}
use Rattle.lvm_num.specs.Status.{IsVolumeNumber}
use Rattle.lvm_num.proofs.Booleans.{clash_gives}
use Rattle.lvm_kept.specs.Group.{IsOneOf, fresh_on}
use Rattle.lvm_recover.proofs.BeginningLemmas.{usable_stay}
use Rattle.lvm_tidying.specs.Cleaned.{IsStillDirty, IsCleaned}
use Rattle.lvm_tidying.proofs.passed.Steps.{split, join}
use Rattle.lvm_recovery.specs.Plan.{usable_by}
use Rattle.lvm_recovery.specs.Dirty.{FindsUsable}
use Rattle.lvm_recovery.specs.Clean.{lacks_usable, is_left, any_still_dirty, is_still_dirty, left_dirty, LeftDirtyIsCleaned}

or_left : (a b : Bool) → IsTrue a → IsTrue (a || b)
or_left true b is = refl
or_left false b is = absurd cc

or_right : (a b : Bool) → IsTrue b → IsTrue (a || b)
or_right true b is = refl
or_right false b is = is

or_parts : (a b : Bool) → IsTrue (a || b) → IsTrue a ⊎ IsTrue b
or_parts true b is = inl refl
or_parts false b is = inr is

or_none : (a b : Bool) → IsFalse a → IsFalse b → IsFalse (a || b)
or_none true b one two = absurd cc
or_none false b one two = two

some_length : {X : Type 0} (x : X) (xs : List X) → (length (x ∷ xs) == 0) ≡ false
some_length x xs = ⊎_elim
    (λ (is : (length (x ∷ xs) == 0) ≡ true). let e = eqb-true (length (x ∷ xs)) 0 is in absurd (omega (arith, e)))
    (λ (isnt : (length (x ∷ xs) == 0) ≡ false). isnt)
    (cases_Bool (length (x ∷ xs) == 0))

none_length : {X : Type 0} (xs : List X) → IsTrue (length xs == 0) → xs ≡ []
none_length [] is = refl
none_length (x ∷ xs) is = let e = eqb-true (length (x ∷ xs)) 0 is in absurd (omega (arith, e))

-- ---- the logical partitions of a volume

module _ (status : Status) (disks : Disks) (row : LvRow) where
  abbrev usable : ℕ → List Pp
  usable lp = filter (usable_by status disks) (copies_of row lp)

  one_more : (lp : ℕ) → lacks_usable status disks row (lp + 1) ≡ (lacks_usable status disks row lp || length (usable lp) == 0)
  one_more lp = ap (lacks_usable status disks row) (add-one lp)

  pub still_none : (lp k : ℕ) → lacks_usable status disks row lp ≡ false → FindsUsable (usable_by status disks) (copies_of row lp) (Some k) → lacks_usable status disks row (lp + 1) ≡ false
  still_none lp k none found = one_more lp ∙ or_none (lacks_usable status disks row lp) (length (usable lp) == 0) none (ap (λ (l : List Pp). length l == 0) found.is ∙ some_length found.first (filter (usable_by status disks) (drop (k + 1) (copies_of row lp))))

  lacks_here : (lp : ℕ) → FindsUsable (usable_by status disks) (copies_of row lp) None → IsTrue (lacks_usable status disks row (lp + 1))
  lacks_here lp none = one_more lp ∙ or_right (lacks_usable status disks row lp) (length (usable lp) == 0) (ap (λ (l : List Pp). length l == 0) none)

  lacks_up : (a n : ℕ) → a ≤ n → IsTrue (lacks_usable status disks row a) → IsTrue (lacks_usable status disks row n)
  lacks_up a zero low is = let same : a ≡ zero = omega (arith, low) in subst (λ (n : ℕ). IsTrue (lacks_usable status disks row n)) same is
  lacks_up a (suc n) low is = ⊎_elim
      (λ (less : a < suc n). or_left (lacks_usable status disks row n) (length (usable n) == 0) (lacks_up a n (omega (arith, less)) is))
      (λ (more : suc n ≤ a). let same : a ≡ suc n = omega (arith, low, more) in subst (λ (m : ℕ). IsTrue (lacks_usable status disks row m)) same is)
      (cases_lt a (suc n))

  pub found_lacking : (lp n : ℕ) → lp < n → FindsUsable (usable_by status disks) (copies_of row lp) None → lacks_usable status disks row n ≡ true
  found_lacking lp n low none = lacks_up (lp + 1) n (omega (arith, low)) (lacks_here lp none)

  pub none_lacking : (lp n : ℕ) → n ≤ lp → lacks_usable status disks row lp ≡ false → lacks_usable status disks row n ≡ false
  none_lacking lp n low none = ⊎_elim
      (λ (is : IsTrue (lacks_usable status disks row n)). clash_gives (lacks_usable status disks row lp) (lacks_up n lp low is) none)
      (λ (isnt : IsFalse (lacks_usable status disks row n)). isnt)
      (cases_Bool (lacks_usable status disks row n))

  -- which one it is
  pub which : (n : ℕ) → IsTrue (lacks_usable status disks row n) → (lp : ℕ) × (lp < n) × (usable lp ≡ [])
  which zero is = absurd cc
  which (suc n) is = ⊎_elim
      (λ (below : IsTrue (lacks_usable status disks row n)). let it = which n below in let low = it.1 in (it.0, omega (arith, low), it.2))
      (λ (here : IsTrue (length (usable n) == 0)). (n, omega arith, none_length (usable n) here))
      (or_parts (lacks_usable status disks row n) (length (usable n) == 0) is)

  pub lacks_one : (n lp : ℕ) → lp < n → usable lp ≡ [] → IsTrue (lacks_usable status disks row n)
  lacks_one n lp low none = found_lacking lp n low none

-- ---- the rows of a group

module _ (status : Status) (disks : Disks) (number : ℕ) (rows : List LvRow) (i : ℕ) (d : LvRow) (low : i < length rows) where
  pub no_row_yet : any_still_dirty status disks number (take i rows) ≡ false → is_left status disks number (slice_index_or rows i d) ≡ false → any_still_dirty status disks number (take (i + 1) rows) ≡ false
  no_row_yet none isnt = ap (any_still_dirty status disks number) (take_more rows i d low) ∙ list_any-append (is_left status disks number) (take i rows) (slice_index_or rows i d ∷ [])
      ∙ or_none (any_still_dirty status disks number (take i rows)) (is_left status disks number (slice_index_or rows i d) || false) none (or_none (is_left status disks number (slice_index_or rows i d)) false isnt refl)

  pub row_found : is_left status disks number (slice_index_or rows i d) ≡ true → any_still_dirty status disks number rows ≡ true
  row_found is = list_any_at (is_left status disks number) rows i d low is

pub no_row : (status : Status) (disks : Disks) (number : ℕ) (rows : List LvRow) (i : ℕ) → length rows ≤ i → any_still_dirty status disks number (take i rows) ≡ false → any_still_dirty status disks number rows ≡ false
no_row status disks number rows i all none = ap (any_still_dirty status disks number) (sym (take_all i rows all)) ∙ none

-- ---- the status in which marks are gone

passive_is : (mode : Mode) → is_passive mode ≡ true → mode ≡ Passive
passive_is Active is = absurd cc
passive_is Passive is = refl
passive_is Off is = absurd cc

-- a number passes and is among them, where it is among those that pass
filter_any : (q : ℕ → Bool) (lv : ℕ) (xs : List ℕ) → list_any (λ n. n == lv) (filter q xs) ≡ (list_any (λ n. n == lv) xs && q lv)
filter_any q lv [] = refl
filter_any q lv (x ∷ xs) = by (x == lv) refl (q x) refl (filter_any q lv xs)
  where
    rest : Bool
    rest = list_any (λ n. n == lv) xs

    absorb : (a b : Bool) → (a || b && true) ≡ (a || b)
    absorb true b = refl
    absorb false true = refl
    absorb false false = refl

    by : (s : Bool) → (x == lv) ≡ s → (t : Bool) → q x ≡ t → list_any (λ n. n == lv) (filter q xs) ≡ (rest && q lv) → list_any (λ n. n == lv) (if q x then x ∷ filter q xs else filter q xs) ≡ ((x == lv || rest) && q lv)
    by true same true passes so =
        let at : q lv ≡ true = ap q (sym (eqb-true x lv same)) ∙ passes in
        ap (λ (t : Bool). list_any (λ n. n == lv) (if t then x ∷ filter q xs else filter q xs)) passes ∙ ap (λ (t : Bool). t || list_any (λ n. n == lv) (filter q xs)) same
        ∙ sym (ap (λ (t : Bool). (t || rest) && q lv) same ∙ ap (λ (t : Bool). true && t) at)
    by true same false passes so =
        let at : q lv ≡ false = ap q (sym (eqb-true x lv same)) ∙ passes in
        ap (λ (t : Bool). list_any (λ n. n == lv) (if t then x ∷ filter q xs else filter q xs)) passes ∙ so ∙ ap (λ (t : Bool). rest && t) at ∙ and_false rest
        ∙ sym (ap (λ (t : Bool). (t || rest) && q lv) same ∙ ap (λ (t : Bool). true && t) at)
      where
        and_false : (a : Bool) → (a && false) ≡ false
        and_false true = refl
        and_false false = refl
    by false same true passes so =
        ap (λ (t : Bool). list_any (λ n. n == lv) (if t then x ∷ filter q xs else filter q xs)) passes ∙ ap (λ (t : Bool). t || list_any (λ n. n == lv) (filter q xs)) same ∙ so
        ∙ sym (ap (λ (t : Bool). (t || rest) && q lv) same)
    by false same false passes so =
        ap (λ (t : Bool). list_any (λ n. n == lv) (if t then x ∷ filter q xs else filter q xs)) passes ∙ so ∙ sym (ap (λ (t : Bool). (t || rest) && q lv) same)

filter_all : (P : ℕ → Type 0) (q : ℕ → Bool) (xs : List ℕ) → All P xs → All P (filter q xs)
filter_all P q [] all = All-nil P
filter_all P q (x ∷ xs) all = by_test (q x) (filter_all P q xs (λ k d low. all (suc k) d (omega (arith, low))))
  where
    by_test : (t : Bool) → All P (filter q xs) → All P (if t then x ∷ filter q xs else filter q xs)
    by_test true rest = All-cons P x (filter q xs) (all 0 x (omega arith)) rest
    by_test false rest = rest

module _ (group : Descriptor) (was next : Stamped Status) (there : Disks) (usable_same : (row : LvRow) (lp : ℕ) → IsOneOf group.lvs row → fresh_on there (Some next) row lp ≡ fresh_on there (Some was) row lp) where
  -- a volume stays dirty where it has such a row
  row_of : (rows : List LvRow) (lv : ℕ) → ((row : LvRow) → IsOneOf rows row → IsOneOf group.lvs row) → IsTrue (calls_dirty next.value lv) → IsTrue (any_still_dirty was.value there lv rows) → IsStillDirty group there next lv
  row_of [] lv among marked is = absurd cc
  row_of (r ∷ rows) lv among marked is = ⊎_elim
      (λ (here : IsTrue (is_left was.value there lv r)).
      let two = split (r.number == lv && is_passive r.mode) (lacks_usable was.value there r r.lps) here in
      let one = split (r.number == lv) (is_passive r.mode) two.0 in
      let at = which was.value there r r.lps two.1 in
      record {
        row = r;
        lp = at.0;
        volume = among r (inl refl);
        number = eqb-true r.number lv one.0;
        mode = passive_is r.mode one.1;
        dirty = marked;
        inside = at.1;
        none = usable_same r at.0 (among r (inl refl)) ∙ at.2;
      })
      (λ (rest : IsTrue (any_still_dirty was.value there lv rows)). row_of rows lv (λ row one. among row (inr one)) marked rest)
      (or_parts (is_left was.value there lv r) (any_still_dirty was.value there lv rows) is)

  to_row : (rows : List LvRow) (lv : ℕ) (row : LvRow) → IsOneOf rows row → IsTrue (is_left was.value there lv row) → IsTrue (any_still_dirty was.value there lv rows)
  to_row [] lv row among is = absurd among
  to_row (r ∷ rows) lv row (inl same) is = or_left (is_left was.value there lv r) (any_still_dirty was.value there lv rows) (subst (λ (x : LvRow). IsTrue (is_left was.value there lv x)) same is)
  to_row (r ∷ rows) lv row (inr among) is = or_right (is_left was.value there lv r) (any_still_dirty was.value there lv rows) (to_row rows lv row among is)

  is_left_of : (lv : ℕ) (it : IsStillDirty group there next lv) → IsTrue (is_left was.value there lv it.row)
  is_left_of lv it = join (it.row.number == lv && is_passive it.row.mode) (lacks_usable was.value there it.row it.row.lps)
      (join (it.row.number == lv) (is_passive it.row.mode) (eq-eqb it.row.number lv it.number) (ap is_passive it.mode))
      (lacks_one was.value there it.row it.row.lps it.lp it.inside (sym (usable_same it.row it.lp it.volume) ∙ it.none))

  cleaned : IsCleaned group there next (left_dirty group was.value there next.value)
  cleaned = record {
    rest = refl;
    dirty = λ lv. (
      λ is. let two = split (calls_dirty next.value lv) (is_still_dirty group was.value there lv) (sym (filter_any (is_still_dirty group was.value there) lv next.value.dirty) ∙ is) in
          row_of group.lvs lv (λ row one. one) two.0 two.1,
      λ it. filter_any (is_still_dirty group was.value there) lv next.value.dirty ∙ join (calls_dirty next.value lv) (is_still_dirty group was.value there lv) it.dirty (to_row group.lvs lv it.row it.volume (is_left_of lv it)),
    );
  }

pub left_dirty_valid : (group : Descriptor) (was next : Status) (there : Disks) → IsValidStatus next → IsValidStatus (left_dirty group was there next)
left_dirty_valid group was next there valid = record {
  some_id = valid.some_id;
  id = valid.id;
  a_row = valid.a_row;
  rows_fit = valid.rows_fit;
  rows = valid.rows;
  dirty = record {
    each = filter_all IsVolumeNumber (is_still_dirty group was there) next.dirty valid.dirty.each;
    numbers_rise = AllPairs-filter (λ a b. a < b) (is_still_dirty group was there) next.dirty valid.dirty.numbers_rise;
  };
}

pub left_dirty_is_cleaned : LeftDirtyIsCleaned
left_dirty_is_cleaned group was next there valid is = record {
  cleaned = cleaned group was next there (λ row lp one. usable_stay group there was next row lp valid is one);
  valid = left_dirty_valid group was.value next.value there is.valid;
}
