-- Rows that say what a status says of some disks.
use Rattle.std.proofs.Common.{◌≡◌, ℕ, zero, suc, ◌+◌, ◌<◌, ◌≤◌, Bool, true, false, cond, ◌&&◌, ◌||◌, List, [], ◌∷◌, ◌++◌, length, get_or, Some, refl, sym, ap, subst, ◌∙◌, arith}
use Rattle.std.specs.Prelude.{◌==◌, map, filter, find, unwrap_or, All, AllPairs}
use Rattle.std.specs.List.{list_any, range_with_len}
use Rattle.std.proofs.lemmas.Bool.{eqb-true, eq-eqb}
use Rattle.std.proofs.lemmas.List.{map-append, append-nil, get_or-map, length-map, length-replicate}
use Rattle.std.proofs.lemmas.List.Elements.{All-tail, All-filter, filter-append}
use Rattle.std.proofs.lemmas.List.FromFn.{get_or-range_with_len, length-range_with_len}
use Rattle.std.proofs.lemmas.List.Folds.{list_any_at, Any-from_list_any}
use Rattle.std.proofs.lemmas.List.Kept.{AllPairs-filter}
use Rattle.std.proofs.lemmas.Map.Views.{any-filter_same}
use Rattle.lvm_num.specs.declared.descriptor.PvRow.{PvRow}
use Rattle.lvm_num.specs.declared.descriptor.Descriptor.{Descriptor}
use Rattle.lvm_num.specs.declared.status.StatusRow.{StatusRow}
use Rattle.lvm_num.specs.declared.status.Status.{Status}
use Rattle.lvm_num.specs.Bits.{has_bit}
use Rattle.lvm_num.specs.Descriptor.{IsValid, is_member, most_members}
use Rattle.lvm_num.specs.Status.{IsStatusRow, AreStatusRows, AreDirty, IsValidStatus}
use Rattle.lvm_num.proofs.BitsLemmas.{has-none}
use Rattle.lvm_num.proofs.Booleans.{or_when_false}
use Rattle.lvm_num.proofs.Lists.{range_next}
use Rattle.lvm_status.specs.Rerowed.{IsRerowed, HasRowsOf, clear_row, row_for, row_from, disks_in_order}
use Rattle.lvm_status.proofs.MarkingLemmas.{any_disk}
use Rattle.lvm_status.proofs.RowsLemmas.Places.{Rise, rise-tail, says, silent}

-- ---- the row of a disk

abbrev row_in : List StatusRow → ℕ → StatusRow
row_in rows disk = unwrap_or (find (λ (row : StatusRow). row.disk == disk) rows) (clear_row disk)

row_disk : (rows : List StatusRow) (disk : ℕ) → (row_in rows disk).disk ≡ disk
row_disk [] disk = refl
row_disk (r ∷ rows) disk = by_test (r.disk == disk) refl (row_disk rows disk)
  where
    by_test : (t : Bool) → r.disk == disk ≡ t → (row_in rows disk).disk ≡ disk → (unwrap_or (cond t (Some r) (find (λ (row : StatusRow). row.disk == disk) rows)) (clear_row disk)).disk ≡ disk
    by_test true is rest = eqb-true r.disk disk is
    by_test false is rest = rest

row_size : (rows : List StatusRow) (disk : ℕ) → All IsStatusRow rows → length (row_in rows disk).stale ≡ 127
row_size [] disk all = length-replicate {A = ℕ} 127 0
row_size (r ∷ rows) disk all = by_test (r.disk == disk) (row_size rows disk (All-tail IsStatusRow r rows all))
  where
    by_test : (t : Bool) → length (row_in rows disk).stale ≡ 127 → length (unwrap_or (cond t (Some r) (find (λ (row : StatusRow). row.disk == disk) rows)) (clear_row disk)).stale ≡ 127
    by_test true rest = (all 0 r (omega arith)).size
    by_test false rest = rest

-- a test that a clear row fails says of it what it says of the disk
row_says : (f : StatusRow → Bool) (disk : ℕ) → f (clear_row disk) ≡ false → (rows : List StatusRow) → Rise rows → f (row_in rows disk) ≡ says f disk rows
row_says f disk none [] rise = none
row_says f disk none (r ∷ rows) rise = by_test (r.disk == disk) refl (row_says f disk none rows (rise-tail r rows rise))
  where
    by_test : (t : Bool) → r.disk == disk ≡ t → f (row_in rows disk) ≡ says f disk rows → f (unwrap_or (cond t (Some r) (find (λ (row : StatusRow). row.disk == disk) rows)) (clear_row disk)) ≡ (t && f r) || says f disk rows
    by_test true is rest =
        let later : says f disk rows ≡ false = ap (λ n. says f n rows) (sym (eqb-true r.disk disk is)) ∙ silent f r rows rise in
        sym (or_when_false (f r) (says f disk rows) later)
    by_test false is rest = rest

-- ---- the rows of some disks

pub have_rows : (s : Status) (disks : List ℕ) (disk : ℕ) → list_any (λ (row : StatusRow). row.disk == disk) (map (row_for s) disks) ≡ list_any (λ e. e == disk) disks
have_rows s [] disk = refl
have_rows s (x ∷ disks) disk = ap (λ (n : ℕ). (n == disk) || list_any (λ (row : StatusRow). row.disk == disk) (map (row_for s) disks)) (row_disk s.rows x) ∙ ap (λ b. (x == disk) || b) (have_rows s disks disk)

absorb : (a g : Bool) → g || (a && g) ≡ g
absorb true true = refl
absorb true false = refl
absorb false true = refl
absorb false false = refl

rows_say : (s : Status) → IsValidStatus s → (f : StatusRow → Bool) → ((disk : ℕ) → f (clear_row disk) ≡ false) → (disks : List ℕ) (disk : ℕ)
    → says f disk (map (row_for s) disks) ≡ list_any (λ e. e == disk) disks && says f disk s.rows
rows_say s valid f none [] disk = refl
rows_say s valid f none (x ∷ disks) disk =
    ap (λ (n : ℕ). ((n == disk) && f (row_for s x)) || says f disk (map (row_for s) disks)) (row_disk s.rows x) ∙ by_test (x == disk) refl (rows_say s valid f none disks disk)
  where
    by_test : (t : Bool) → x == disk ≡ t → says f disk (map (row_for s) disks) ≡ list_any (λ e. e == disk) disks && says f disk s.rows
        → (t && f (row_for s x)) || says f disk (map (row_for s) disks) ≡ (t || list_any (λ e. e == disk) disks) && says f disk s.rows
    by_test true is rest =
        let same : f (row_for s x) ≡ says f disk s.rows = ap (λ n. f (row_for s n)) (eqb-true x disk is) ∙ row_says f disk (none disk) s.rows valid.rows.disks_rise in
        ap (λ b. b || says f disk (map (row_for s) disks)) same ∙ ap (λ b. says f disk s.rows || b) rest ∙ absorb (list_any (λ e. e == disk) disks) (says f disk s.rows)
    by_test false is rest = rest

are_rows : (s : Status) → IsValidStatus s → (disks : List ℕ) → All (λ e. e < 128) disks → AllPairs (λ a b. a < b) disks → AreStatusRows (map (row_for s) disks)
are_rows s valid disks low rise = record {
  each = λ k d lt.
      let within : k < length disks = omega (arith, lt, length-map disks (row_for s)) in
      subst IsStatusRow (sym (get_or-map (row_for s) disks k 0 d within))
      (record { disk = (let own = row_disk s.rows (get_or disks k 0) in let below = low k 0 within in omega (arith, own, below)); size = row_size s.rows (get_or disks k 0) valid.rows.each });
  disks_rise = λ i j d less lt.
      let j-lt : j < length disks = omega (arith, lt, length-map disks (row_for s)) in
      let i-lt : i < length disks = omega (arith, less, j-lt) in
      let up = rise i j 0 less j-lt in
      let i-is : (get_or (map (row_for s) disks) i d).disk ≡ get_or disks i 0 = ap (λ (row : StatusRow). row.disk) (get_or-map (row_for s) disks i 0 d i-lt) ∙ row_disk s.rows (get_or disks i 0) in
      let j-is : (get_or (map (row_for s) disks) j d).disk ≡ get_or disks j 0 = ap (λ (row : StatusRow). row.disk) (get_or-map (row_for s) disks j 0 d j-lt) ∙ row_disk s.rows (get_or disks j 0) in
      omega (arith, up, i-is, j-is);
}

rerowed : (d : Descriptor) (old new : Status) (disks : List ℕ) → IsValidStatus old → new.id ≡ old.id → new.big ≡ d.big → new.dirty ≡ old.dirty → new.rows ≡ map (row_for old) disks
    → ((disk : ℕ) → list_any (λ e. e == disk) disks ≡ is_member d disk) → IsRerowed d old new
rerowed d old new disks valid id big dirty rows are = record {
  id = id;
  big = big;
  rows = λ disk. ap (λ (l : List StatusRow). list_any (λ (row : StatusRow). row.disk == disk) l) rows ∙ have_rows old disks disk ∙ are disk;
  stale = λ p. ap (says (λ (row : StatusRow). has_bit row.stale p.pp) p.disk) rows ∙ rows_say old valid (λ (row : StatusRow). has_bit row.stale p.pp) (λ disk. has-none 127 p.pp) disks p.disk
      ∙ ap (λ b. b && says (λ (row : StatusRow). has_bit row.stale p.pp) p.disk old.rows) (are p.disk);
  missing = λ disk. ap (says (λ (row : StatusRow). row.missing) disk) rows ∙ rows_say old valid (λ (row : StatusRow). row.missing) (λ n. refl) disks disk
      ∙ ap (λ b. b && says (λ (row : StatusRow). row.missing) disk old.rows) (are disk);
  dirty = dirty;
}

-- ---- over its own rows

map_from : (s : Status) (rows : List StatusRow) → map (row_from s) rows ≡ map (row_for s) (map (λ (row : StatusRow). row.disk) rows)
map_from s [] = refl
map_from s (row ∷ rows) = ap (λ (l : List StatusRow). row_from s row ∷ l) (map_from s rows)

pub copied_valid : (from old new : Status) → IsValidStatus from → IsValidStatus old → new.id ≡ from.id → new.big ≡ old.big → new.dirty ≡ from.dirty → new.rows ≡ map (row_from from) old.rows → IsValidStatus new
copied_valid from old new valid was id big dirty rows =
    let disks = map (λ (row : StatusRow). row.disk) old.rows in
    let many : length disks ≡ length old.rows = length-map old.rows (λ (row : StatusRow). row.disk) in
    let all : new.rows ≡ map (row_for from) disks = rows ∙ map_from from old.rows in
    let long : length new.rows ≡ length old.rows = ap (λ (l : List StatusRow). length l) rows ∙ length-map old.rows (row_from from) in
    record {
      some_id = λ e. valid.some_id (sym id ∙ e);
      id = omega (arith, id, valid.id);
      a_row = omega (arith, long, was.a_row);
      rows_fit = subst (λ (b : Bool). length new.rows ≤ most_members b) (sym big) (let fit = was.rows_fit in omega (arith, long, fit));
      rows = subst AreStatusRows (sym all) (are_rows from valid disks
          (λ k d lt.
          let within : k < length old.rows = omega (arith, lt, many) in
          let is : get_or disks k d ≡ (get_or old.rows k (clear_row 0)).disk = get_or-map (λ (row : StatusRow). row.disk) old.rows k (clear_row 0) d within in
          let low = (was.rows.each k (clear_row 0) within).disk in omega (arith, is, low))
          (λ i j d less lt.
          let j-lt : j < length old.rows = omega (arith, lt, many) in
          let i-lt : i < length old.rows = omega (arith, less, j-lt) in
          let i-is : get_or disks i d ≡ (get_or old.rows i (clear_row 0)).disk = get_or-map (λ (row : StatusRow). row.disk) old.rows i (clear_row 0) d i-lt in
          let j-is : get_or disks j d ≡ (get_or old.rows j (clear_row 0)).disk = get_or-map (λ (row : StatusRow). row.disk) old.rows j (clear_row 0) d j-lt in
          let up = was.rows.disks_rise i j (clear_row 0) less j-lt in omega (arith, i-is, j-is, up)));
      dirty = subst AreDirty (sym dirty) valid.dirty;
    }

pub copied : (from old new : Status) → IsValidStatus from → new.id ≡ from.id → new.big ≡ old.big → new.dirty ≡ from.dirty → new.rows ≡ map (row_from from) old.rows → (d : Descriptor) → HasRowsOf d old → IsRerowed d from new
copied from old new valid id big dirty rows d has =
    rerowed d from new (map (λ (row : StatusRow). row.disk) old.rows) valid id (big ∙ has.big) dirty (rows ∙ map_from from old.rows) (λ disk. sym (any_disk old.rows disk) ∙ has.rows disk)

-- ---- disks by their numbers

at_range : (n i : ℕ) → i < n → get_or (range_with_len 0 n) i 0 ≡ i
at_range n i lt = let e = get_or-range_with_len 0 n i 0 lt in omega (arith, e)

in_range : (n disk : ℕ) → disk < n → list_any (λ e. e == disk) (range_with_len 0 n) ≡ true
in_range n disk lt = list_any_at (λ e. e == disk) (range_with_len 0 n) disk 0 (omega (arith, lt, length-range_with_len 0 n)) (eq-eqb _ disk (at_range n disk lt))

range_rises : (n : ℕ) → AllPairs (λ a b. a < b) (range_with_len 0 n)
range_rises n i j d less lt =
    let all : length (range_with_len 0 n) ≡ n = length-range_with_len 0 n in
    let first : get_or (range_with_len 0 n) i d ≡ 0 + i = get_or-range_with_len 0 n i d (omega (arith, less, lt, all)) in
    let second : get_or (range_with_len 0 n) j d ≡ 0 + j = get_or-range_with_len 0 n j d (omega (arith, lt, all)) in
    omega (arith, first, second, less)

range_below : (n : ℕ) → All (λ e. e < n) (range_with_len 0 n)
range_below n k d lt =
    let all : length (range_with_len 0 n) ≡ n = length-range_with_len 0 n in
    let is : get_or (range_with_len 0 n) k d ≡ 0 + k = get_or-range_with_len 0 n k d (omega (arith, lt, all)) in
    omega (arith, is, lt, all)

in_order : (disk : ℕ) → disk < 128 → list_any (λ e. e == disk) disks_in_order ≡ true
unfolding disks_in_order
in_order disk lt = in_range 128 disk lt

order_rises : AllPairs (λ a b. a < b) disks_in_order
unfolding disks_in_order
order_rises = range_rises 128

order_below : All (λ e. e < 128) disks_in_order
unfolding disks_in_order
order_below = range_below 128

pub all_in_order : (n : ℕ) → n ≡ 128 → range_with_len 0 n ≡ disks_in_order
unfolding disks_in_order
all_in_order n is = ap (range_with_len 0) is

-- ---- how many of them are members

either_one : (x : ℕ) (a b c : List ℕ) (s t : Bool) → length c ≤ length a + length b → length (cond (s || t) (x ∷ c) c) ≤ length (cond s (x ∷ a) a) + length (cond t (x ∷ b) b)
either_one x a b c true true le = omega (arith, le)
either_one x a b c true false le = omega (arith, le)
either_one x a b c false true le = omega (arith, le)
either_one x a b c false false le = le

filter_either : (p q : ℕ → Bool) (xs : List ℕ) → length (filter (λ e. p e || q e) xs) ≤ length (filter p xs) + length (filter q xs)
filter_either p q [] = omega arith
filter_either p q (x ∷ xs) = either_one x (filter p xs) (filter q xs) (filter (λ e. p e || q e) xs) (p x) (q x) (filter_either p q xs)

none_of_later : (disk a n : ℕ) → disk < a → length (filter (λ e. disk == e) (range_with_len a n)) ≡ 0
none_of_later disk a zero lt = refl
none_of_later disk a (suc n) lt = by_test (none_of_later disk (a + 1) n (omega (arith, lt))) (disk == a) refl
  where
    by_test : length (filter (λ e. disk == e) (range_with_len (a + 1) n)) ≡ 0 → (t : Bool) → disk == a ≡ t → length (cond t (a ∷ filter (λ e. disk == e) (range_with_len (a + 1) n)) (filter (λ e. disk == e) (range_with_len (a + 1) n))) ≡ 0
    by_test rest true is = let e = eqb-true disk a is in absurd (omega (arith, e, lt))
    by_test rest false is = rest

one_at_most : (disk a n : ℕ) → length (filter (λ e. disk == e) (range_with_len a n)) ≤ 1
one_at_most disk a zero = omega arith
one_at_most disk a (suc n) = by_test (one_at_most disk (a + 1) n) (disk == a) refl
  where
    by_test : length (filter (λ e. disk == e) (range_with_len (a + 1) n)) ≤ 1 → (t : Bool) → disk == a ≡ t → length (cond t (a ∷ filter (λ e. disk == e) (range_with_len (a + 1) n)) (filter (λ e. disk == e) (range_with_len (a + 1) n))) ≤ 1
    by_test rest true is = let e = eqb-true disk a is in let none = none_of_later disk (a + 1) n (omega (arith, e)) in omega (arith, none)
    by_test rest false is = rest

none_kept : (xs : List ℕ) → length (filter (λ e. false) xs) ≡ 0
none_kept [] = refl
none_kept (x ∷ xs) = none_kept xs

few_of_range : (rows : List PvRow) (n : ℕ) → length (filter (λ e. list_any (λ (row : PvRow). row.disk == e) rows) (range_with_len 0 n)) ≤ length rows
few_of_range [] n = let none = none_kept (range_with_len 0 n) in omega (arith, none)
few_of_range (row ∷ rows) n =
    let both = filter_either (λ e. row.disk == e) (λ e. list_any (λ (r : PvRow). r.disk == e) rows) (range_with_len 0 n) in
    let one = one_at_most row.disk 0 n in
    let rest = few_of_range rows n in
    omega (arith, both, one, rest)

few_members : (d : Descriptor) → length (filter (is_member d) disks_in_order) ≤ length d.pvs
unfolding disks_in_order
few_members d = few_of_range d.pvs 128

-- ---- the members in order

member_low : (d : Descriptor) → IsValid d → (disk : ℕ) → is_member d disk ≡ true → disk < 128
member_low d valid disk is =
    let found = Any-from_list_any (λ (row : PvRow). row.disk == disk) d.pvs is in
    let member = valid.members.each found.0 found.1 found.2 in
    omega (arith, member.disk, ap (λ (row : PvRow). row.disk) found.3, eqb-true found.1.disk disk found.4)

members_are : (d : Descriptor) → IsValid d → (disk : ℕ) → list_any (λ e. e == disk) (filter (is_member d) disks_in_order) ≡ is_member d disk
members_are d valid disk = any-filter_same (λ e. e == disk) (is_member d) (is_member d disk) (λ k is. ap (is_member d) (eqb-true k disk is)) disks_in_order ∙ by_test (is_member d disk) refl
  where
    by_test : (t : Bool) → is_member d disk ≡ t → (t && list_any (λ e. e == disk) disks_in_order) ≡ t
    by_test true is = in_order disk (member_low d valid disk is)
    by_test false is = refl

some_row : (xs : List ℕ) (disk : ℕ) → list_any (λ e. e == disk) xs ≡ true → 1 ≤ length xs
some_row [] disk is = absurd cc
some_row (x ∷ xs) disk is = omega arith

first_member : (rows : List PvRow) → 1 ≤ length rows → (disk : ℕ) × (list_any (λ (row : PvRow). row.disk == disk) rows ≡ true)
first_member [] some = absurd (omega (arith, some))
first_member (row ∷ rows) some = (row.disk, ap (λ b. b || list_any (λ (r : PvRow). r.disk == row.disk) rows) (eq-eqb row.disk row.disk refl))

-- ---- over the rows of a group's members

module _ (d : Descriptor) (old new : Status) (valid : IsValid d) (was : IsValidStatus old) (id : new.id ≡ old.id) (big : new.big ≡ d.big) (dirty : new.dirty ≡ old.dirty)
    (rows : new.rows ≡ map (row_for old) (filter (is_member d) disks_in_order)) where
  pub made : IsRerowed d old new
  made = rerowed d old new (filter (is_member d) disks_in_order) was id big dirty rows (members_are d valid)

  pub made_valid : IsValidStatus new
  made_valid =
      let disks = filter (is_member d) disks_in_order in
      let long : length new.rows ≡ length disks = ap (λ (l : List StatusRow). length l) rows ∙ length-map disks (row_for old) in
      let one = first_member d.pvs valid.head.a_member in
      let some = some_row disks one.0 (members_are d valid one.0 ∙ one.1) in
      let few = few_members d in
      record {
        some_id = λ e. was.some_id (sym id ∙ e);
        id = omega (arith, id, was.id);
        a_row = omega (arith, long, some);
        rows_fit = subst (λ (b : Bool). length new.rows ≤ most_members b) (sym big) (let fit = valid.head.members in omega (arith, long, few, fit));
        rows = subst AreStatusRows (sym rows) (are_rows old was disks (All-filter (is_member d) (λ e. e < 128) disks_in_order order_below) (AllPairs-filter (λ a b. a < b) (is_member d) disks_in_order order_rises));
        dirty = subst AreDirty (sym dirty) was.dirty;
      }

-- ---- one more disk

range_more : (n : ℕ) → range_with_len 0 (n + 1) ≡ range_with_len 0 n ++ n ∷ []
range_more n = ap (range_with_len 0) (one_more n) ∙ range_next 0 n ∙ ap (λ (x : ℕ). range_with_len 0 n ++ x ∷ []) (none_less n)
  where
    one_more : (n : ℕ) → ◌≡◌ {A = ℕ} (n + 1) (suc n)
    one_more n = omega arith

    none_less : (n : ℕ) → ◌≡◌ {A = ℕ} (0 + n) n
    none_less n = omega arith

pub row_more : (s : Status) (p : ℕ → Bool) (n : ℕ) → p n ≡ true → map (row_for s) (filter p (range_with_len 0 (n + 1))) ≡ map (row_for s) (filter p (range_with_len 0 n)) ++ row_for s n ∷ []
row_more s p n is =
    ap (λ (l : List ℕ). map (row_for s) (filter p l)) (range_more n)
    ∙ ap (map (row_for s)) (filter-append p (range_with_len 0 n) (n ∷ []))
    ∙ map-append (row_for s) (filter p (range_with_len 0 n)) (filter p (n ∷ []))
    ∙ ap (λ b. map (row_for s) (filter p (range_with_len 0 n)) ++ map (row_for s) (cond b (n ∷ []) [])) is

pub row_same : (s : Status) (p : ℕ → Bool) (n : ℕ) → p n ≡ false → map (row_for s) (filter p (range_with_len 0 (n + 1))) ≡ map (row_for s) (filter p (range_with_len 0 n))
row_same s p n is =
    ap (λ (l : List ℕ). map (row_for s) (filter p l)) (range_more n)
    ∙ ap (map (row_for s)) (filter-append p (range_with_len 0 n) (n ∷ []) ∙ ap (λ b. filter p (range_with_len 0 n) ++ cond b (n ∷ []) []) is ∙ append-nil (filter p (range_with_len 0 n)))
