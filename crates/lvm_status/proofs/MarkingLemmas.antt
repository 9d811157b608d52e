-- Marks one after another.
use Rattle.std.proofs.Common.{◌≡◌, ◌⊎◌, inl, inr, ⊎_elim, ℕ, zero, suc, ◌+◌, ◌*◌, ◌<◌, ◌≤◌, Bool, true, false, ◌||◌, ◌&&◌, ◌==◌, List, [], ◌∷◌, length, get_or, take, drop, map, refl, sym, ap, subst, ◌∙◌, arith}
use Rattle.std.specs.Prelude.{IsTrue, IsFalse, not, All}
use Rattle.std.specs.List.{list_any}
use Rattle.std.proofs.lemmas.Bool.{cases_lt, or_left, or_right, or_cases}
use Rattle.std.proofs.lemmas.List.{take_more, get_or_default}
use Rattle.std.proofs.lemmas.List.Elements.{All-take, All-drop}
use Rattle.lvm_num.specs.declared.place.Pp.{Pp}
use Rattle.lvm_num.specs.declared.descriptor.LvRow.{LvRow}
use Rattle.lvm_num.specs.declared.status.StatusRow.{StatusRow}
use Rattle.lvm_num.specs.declared.status.Status.{Status}
use Rattle.lvm_num.specs.Disks.{Disks}
use Rattle.std.proofs.lemmas.List.Concat.{get_or-flat_map}
use Rattle.std.proofs.lemmas.List.Folds.{length-flat_map-take}
use Rattle.lvm_num.specs.Descriptor.{copies_of, partitions_in, is_pp}
use Rattle.lvm_num.specs.Status.{IsValidStatus, calls_stale}
use Rattle.lvm_num.specs.Among.{IsOneOf}
use Rattle.lvm_num.proofs.AmongLemmas.{one_of_left, one_of_right, one_of_either}
use Rattle.lvm_num.proofs.Booleans.{clash, or_when_false}
use Rattle.lvm_num.proofs.DescriptorLemmas.Partitions.{one_partition, same_partition}
use Rattle.lvm_status.specs.Table.{has_row, SameMembers, SameMissing}
use Rattle.lvm_status.specs.Marking.{is_served, IsLostCopy, IsLeftBelow, IsLeftIn, MarksLost, HasMark}

-- ---- one of a list

-- those before one more place
pub one_of_more : {X : Type 0} (xs : List X) (i : ℕ) (y x : X) → i < length xs → y ≡ get_or xs i y → IsOneOf (take (i + 1) xs) x → IsOneOf (take i xs) x ⊎ (x ≡ y)
one_of_more xs i y x lt here is = ⊎_elim (λ l. inl l) (λ r. inr (⊎_elim (λ (e : x ≡ get_or xs i y). e ∙ sym here) (λ none. absurd none) r))
    (one_of_either (take i xs) (get_or xs i y ∷ []) x (subst (λ (l : List _). IsOneOf l x) (take_more xs i y lt) is))

pub more_one_of : {X : Type 0} (xs : List X) (i : ℕ) (y x : X) → i < length xs → y ≡ get_or xs i y → IsOneOf (take i xs) x ⊎ (x ≡ y) → IsOneOf (take (i + 1) xs) x
more_one_of xs i y x lt here is = subst (λ (l : List _). IsOneOf l x) (sym (take_more xs i y lt))
    (⊎_elim (λ l. one_of_left (take i xs) (get_or xs i y ∷ []) x l) (λ (e : x ≡ y). one_of_right (take i xs) (get_or xs i y ∷ []) x (inl (e ∙ here))) is)

pub take_whole : {X : Type 0} (xs : List X) → take (length xs) xs ≡ xs
take_whole [] = refl
take_whole (x ∷ xs) = ap (λ (l : List _). x ∷ l) (take_whole xs)

-- ---- tables with the same rows

pub any_disk : (rows : List StatusRow) (disk : ℕ) → list_any (λ (row : StatusRow). row.disk == disk) rows ≡ list_any (λ n. n == disk) (map (λ (row : StatusRow). row.disk) rows)
any_disk [] disk = refl
any_disk (row ∷ rows) disk = ap (λ b. row.disk == disk || b) (any_disk rows disk)

pub has_row-same : (old new : Status) → SameMembers old new → (disk : ℕ) → has_row new disk ≡ has_row old disk
has_row-same old new same disk =
    any_disk new.rows disk ∙ ap (λ disks. list_any (λ n. n == disk) disks) same.disks ∙ sym (any_disk old.rows disk)

pub markable_same : (old new : Status) (ps : List Pp) → SameMembers old new → All (HasMark old) ps → All (HasMark new) ps
markable_same old new ps same all k d lt = let one = all k d lt in record { disk = one.disk; partition = one.partition; row = has_row-same old new same (get_or ps k d).disk ∙ one.row }

pub markable_copies : (s : Status) (row : LvRow) (lp : ℕ) → All (HasMark s) row.map → All (HasMark s) (copies_of row lp)
markable_copies s row lp all = All-take (HasMark s) row.copies (drop (lp * row.copies) row.map) (All-drop (HasMark s) (lp * row.copies) row.map all)

-- ---- marks

module _ (answering : Disks) where
  pub marks_none : (P : Pp → Type 0) (s : Status) → IsValidStatus s → ((p : Pp) → P p → ⊥) → MarksLost answering P s s
  marks_none P s valid none = record {
    members = record { id = refl; big = refl; disks = refl; valid = valid };
    missing = λ d. refl;
    dirty = refl;
    kept = λ p is. is;
    marked = λ p is. absurd (none p is);
    only = λ p is. inl is;
    answered = λ p is. refl;
  }

  pub marks_as : (P Q : Pp → Type 0) (old new : Status) → ((p : Pp) → P p → Q p) → ((p : Pp) → Q p → P p) → MarksLost answering P old new → MarksLost answering Q old new
  marks_as P Q old new to from marks = record {
    members = marks.members;
    missing = marks.missing;
    dirty = marks.dirty;
    kept = marks.kept;
    marked = λ p is. marks.marked p (from p is);
    only = λ p is. ⊎_elim (λ old. inl old) (λ it. inr (to p it)) (marks.only p is);
    answered = marks.answered;
  }

  same_members : (old mid new : Status) → SameMembers old mid → SameMembers mid new → SameMembers old new
  same_members old mid new a b = record { id = b.id ∙ a.id; big = b.big ∙ a.big; disks = b.disks ∙ a.disks; valid = b.valid }

  pub marks_join : (P Q : Pp → Type 0) (old mid new : Status) → MarksLost answering P old mid → MarksLost answering Q mid new → MarksLost answering (λ p. P p ⊎ Q p) old new
  marks_join P Q old mid new one two = record {
    members = same_members old mid new one.members two.members;
    missing = λ d. two.missing d ∙ one.missing d;
    dirty = two.dirty ∙ one.dirty;
    kept = λ p is. two.kept p (one.kept p is);
    marked = λ p is. ⊎_elim (λ here. two.kept p (one.marked p here)) (λ there. two.marked p there) is;
    only = λ p is. ⊎_elim (λ before. ⊎_elim (λ old. inl old) (λ here. inr (inl here)) (one.only p before)) (λ there. inr (inr there)) (two.only p is);
    answered = λ p is. two.answered p is ∙ one.answered p is;
  }

  pub marks_one : (pp : Pp) (old new : Status) → IsFalse (answering pp.disk) → SameMembers old new → ((p : Pp) → calls_stale new p ≡ calls_stale old p || is_pp p pp) → SameMissing old new → new.dirty ≡ old.dirty
      → MarksLost answering (λ p. p ≡ pp) old new
  marks_one pp old new absent members stale missing dirty = record {
    members = members;
    missing = missing;
    dirty = dirty;
    kept = λ p is. stale p ∙ or_left (calls_stale old p) (is_pp p pp) is;
    marked = λ p is. stale p ∙ or_right (calls_stale old p) (is_pp p pp) (same_partition p pp is);
    only = λ p is. ⊎_elim (λ was. inl was) (λ here. inr (one_partition p pp here)) (or_cases (calls_stale old p) (is_pp p pp) (sym (stale p) ∙ is));
    answered = λ p is. stale p ∙ or_when_false (calls_stale old p) (is_pp p pp) (not_it (is_pp p pp) p is refl);
  }
    where
      not_it : (t : Bool) (p : Pp) → IsTrue (answering p.disk) → is_pp p pp ≡ t → t ≡ false
      not_it true p is e = absurd (clash (answering p.disk) is (ap (λ (x : Pp). answering x.disk) (one_partition p pp e) ∙ absent))
      not_it false p is e = refl

  -- ---- which serve

  pub served_same : (P : Pp → Type 0) (old new : Status) (copies : List Pp) → MarksLost answering P old new → is_served answering new copies ≡ is_served answering old copies
  served_same P old new copies marks = λ i. list_any (λ (p : Pp). tests p i) copies
    where
      by_answer : (t : Bool) (p : Pp) → answering p.disk ≡ t → t && not (calls_stale new p) ≡ t && not (calls_stale old p)
      by_answer true p is = ap not (marks.answered p is)
      by_answer false p is = refl

      tests : (p : Pp) → answering p.disk && not (calls_stale new p) ≡ answering p.disk && not (calls_stale old p)
      tests p = by_answer (answering p.disk) p refl

  pub left_same : (P : Pp → Type 0) (old new : Status) (copies : List Pp) → MarksLost answering P old new → (p : Pp) → IsLostCopy answering new copies p → IsLostCopy answering old copies p
  left_same P old new copies marks p left = record { one = left.one; absent = left.absent; served = sym (served_same P old new copies marks) ∙ left.served }

  pub left_again : (P : Pp → Type 0) (old new : Status) (copies : List Pp) → MarksLost answering P old new → (p : Pp) → IsLostCopy answering old copies p → IsLostCopy answering new copies p
  left_again P old new copies marks p left = record { one = left.one; absent = left.absent; served = served_same P old new copies marks ∙ left.served }

  -- the next logical partition
  pub below_more : (first now new : Status) (row : LvRow) (n : ℕ) → MarksLost answering (IsLeftBelow answering first row n) first now → MarksLost answering (IsLostCopy answering now (copies_of row n)) now new
      → MarksLost answering (IsLeftBelow answering first row (n + 1)) first new
  below_more first now new row n before here = marks_as (λ p. IsLeftBelow answering first row n p ⊎ IsLostCopy answering now (copies_of row n) p) (IsLeftBelow answering first row (n + 1)) first new
      (λ p is. ⊎_elim (λ (b : IsLeftBelow answering first row n p). record { lp = b.lp; below = (let lt = b.below in omega (arith, lt)); left = b.left })
      (λ l. record { lp = n; below = omega arith; left = left_same (IsLeftBelow answering first row n) first now (copies_of row n) before p l }) is)
      (λ p b. by_place p b (cases_lt b.lp n))
      (marks_join (IsLeftBelow answering first row n) (IsLostCopy answering now (copies_of row n)) first now new before here)
    where
      by_place : (p : Pp) (b : IsLeftBelow answering first row (n + 1) p) → (b.lp < n) ⊎ (n ≤ b.lp) → IsLeftBelow answering first row n p ⊎ IsLostCopy answering now (copies_of row n) p
      by_place p b (inl lt) = inl (record { lp = b.lp; below = lt; left = b.left })
      by_place p b (inr ge) =
          let same : b.lp ≡ n = (let lt = b.below in omega (arith, lt, ge)) in
          inr (left_again (IsLeftBelow answering first row n) first now (copies_of row n) before p (subst (λ (m : ℕ). IsLostCopy answering first (copies_of row m) p) same b.left))

  -- the next volume
  pub volumes_more : (first now new : Status) (rows : List LvRow) (i : ℕ) (row : LvRow) → i < length rows → row ≡ get_or rows i row → MarksLost answering (IsLeftIn answering first (take i rows)) first now
      → MarksLost answering (IsLeftBelow answering now row row.lps) now new → MarksLost answering (IsLeftIn answering first (take (i + 1) rows)) first new
  volumes_more first now new rows i row lt is before here = marks_as (λ p. IsLeftIn answering first (take i rows) p ⊎ IsLeftBelow answering now row row.lps p) (IsLeftIn answering first (take (i + 1) rows)) first new
      (λ p it. ⊎_elim (λ (b : IsLeftIn answering first (take i rows) p). record { row = b.row; volume = more_one_of rows i row b.row lt is (inl b.volume); left = b.left })
      (λ (b : IsLeftBelow answering now row row.lps p). record {
        row = row;
        volume = more_one_of rows i row row lt is (inr refl);
        left = record { lp = b.lp; below = b.below; left = left_same (IsLeftIn answering first (take i rows)) first now (copies_of row b.lp) before p b.left };
      }) it)
      (λ p b. ⊎_elim (λ earlier. inl (record { row = b.row; volume = earlier; left = b.left }))
      (λ (e : b.row ≡ row). let l : IsLeftBelow answering first row row.lps p = subst (λ (r : LvRow). IsLeftBelow answering first r r.lps p) e b.left in
      inr (record { lp = l.lp; below = l.below; left = left_again (IsLeftIn answering first (take i rows)) first now (copies_of row l.lp) before p l.left }))
      (one_of_more rows i row b.row lt is b.volume))
      (marks_join (IsLeftIn answering first (take i rows)) (IsLeftBelow answering now row row.lps) first now new before here)

  -- the next copy, on a disk that doesn't answer or on one that does
  pub copies_more : (first now new : Status) (copies : List Pp) (i : ℕ) (pp : Pp) → i < length copies → pp ≡ get_or copies i pp → IsFalse (answering pp.disk)
      → MarksLost answering (λ p. IsOneOf (take i copies) p × IsFalse (answering p.disk)) first now → MarksLost answering (λ p. p ≡ pp) now new → MarksLost answering (λ p. IsOneOf (take (i + 1) copies) p × IsFalse (answering p.disk)) first new
  copies_more first now new copies i pp lt is absent before here = marks_as (λ p. (IsOneOf (take i copies) p × IsFalse (answering p.disk)) ⊎ (p ≡ pp)) (λ p. IsOneOf (take (i + 1) copies) p × IsFalse (answering p.disk)) first new
      (λ p it. ⊎_elim (λ (b : IsOneOf (take i copies) p × IsFalse (answering p.disk)). (more_one_of copies i pp p lt is (inl b.0), b.1)) (λ (e : p ≡ pp). (more_one_of copies i pp p lt is (inr e), ap (λ (x : Pp). answering x.disk) e ∙ absent)) it)
      (λ p b. ⊎_elim (λ earlier. inl (earlier, b.1)) (λ (e : p ≡ pp). inr e) (one_of_more copies i pp p lt is b.0))
      (marks_join (λ p. IsOneOf (take i copies) p × IsFalse (answering p.disk)) (λ p. p ≡ pp) first now new before here)

  pub copies_same : (first now : Status) (copies : List Pp) (i : ℕ) (pp : Pp) → i < length copies → pp ≡ get_or copies i pp → IsTrue (answering pp.disk)
      → MarksLost answering (λ p. IsOneOf (take i copies) p × IsFalse (answering p.disk)) first now → MarksLost answering (λ p. IsOneOf (take (i + 1) copies) p × IsFalse (answering p.disk)) first now
  copies_same first now copies i pp lt is here before = marks_as (λ p. IsOneOf (take i copies) p × IsFalse (answering p.disk)) (λ p. IsOneOf (take (i + 1) copies) p × IsFalse (answering p.disk)) first now
      (λ p b. (more_one_of copies i pp p lt is (inl b.0), b.1))
      (λ p b. (⊎_elim (λ earlier. earlier) (λ (e : p ≡ pp). absurd (clash (answering p.disk) (ap (λ (x : Pp). answering x.disk) e ∙ here) b.1)) (one_of_more copies i pp p lt is b.0), b.1))
      before

-- ---- the steps of the loops

abbrev pub no_pp : Pp
no_pp = record { disk = 0; pp = 0 }

pub at_place : (xs : List Pp) (i : ℕ) → i < length xs → get_or xs i no_pp ≡ get_or xs i (get_or xs i no_pp)
at_place xs i lt = get_or_default xs i no_pp (get_or xs i no_pp) lt

none_before : (copies : List Pp) (p : Pp) → IsOneOf (take 0 copies) p → ⊥
none_before [] p is = is
none_before (x ∷ copies) p is = is

-- none is marked yet
pub no_copies : (answering : Disks) (s : Status) (copies : List Pp) → IsValidStatus s → MarksLost answering (λ p. IsOneOf (take 0 copies) p × IsFalse (answering p.disk)) s s
no_copies answering s copies valid = marks_none answering (λ p. IsOneOf (take 0 copies) p × IsFalse (answering p.disk)) s valid (λ p is. none_before copies p is.0)

-- an element of a list is one of it
pub one_at : {X : Type 0} (xs : List X) (i : ℕ) (d : X) → i < length xs → IsOneOf xs (get_or xs i d)
one_at [] i d lt = absurd (omega (arith, lt))
one_at (x ∷ xs) zero d lt = inl refl
one_at (x ∷ xs) (suc i) d lt = inr (one_at xs i d (omega (arith, lt)))

-- what holds of all elements of all pieces holds of those of one piece
pub markable_row : (s : Status) (rows : List LvRow) (i : ℕ) (d : LvRow) → i < length rows → All (HasMark s) (partitions_in rows) → All (HasMark s) (get_or rows i d).map
markable_row s rows i d lt all k e less = subst (HasMark s) (get_or-flat_map (λ (row : LvRow). row.map) rows i k d e lt less)
    (all (length (partitions_in (take i rows)) + k) e (let most = length-flat_map-take (λ (row : LvRow). row.map) rows i d lt in omega (arith, most, less)))
