-- Filters of notes, and what they pass.
use Rattle.std.proofs.Common.{◌≡◌, ◌<◌, ◌+◌, ◌-◌, ◌==◌, ◌++◌, ◌∷◌, inl, inr, [], ℕ, List, Some, Bool, true, false, get_or, set, slice_get, length, refl, sym, ◌∙◌, ap, arith}
use Rattle.std.proofs.lemmas.Bool.{cases_lt, and_parts, eqb-false, eqb-true, false_from_ne_true}
use Rattle.std.proofs.lemmas.List.{get_or_default, get_or-set_other, get_or_append_left, get_or-append_right, length-append, length-set}
use Rattle.std.proofs.lemmas.List.Edits.{length-remove, get_or-remove_below, get_or-remove_above}
use Rattle.std.proofs.lemmas.Grind.{get_or-set_at}
use Rattle.std.proofs.lemmas.Option.{same_Some, slice_get-get_or, slice_get_within}
use Rattle.std.specs.List.{All, remove}
use Rattle.lvm_num.specs.declared.record.NoteEntry.{NoteEntry}
use Rattle.arrayvec.specs.ArrayVec.{ArrayVec}
use Rattle.lvm_mwc.specs.declared.notes.DiskNotes.{DiskNotes}
use Rattle.lvm_mwc.specs.Notes.{both_name, names_group}
use Rattle.lvm_mwc.specs.Filters.{AreFilters, PassesAll, passes}

-- a track group that the filter of a disk doesn't pass isn't named there
pub not_passed : (notes : List DiskNotes) (filters : List (List Bool)) (k lv group : ℕ) (n : DiskNotes) (filter : List Bool) → AreFilters notes filters → slice_get notes k ≡ Some n → filter ≡ get_or filters k filter
    → passes filter group ≡ false → both_name lv group n ≡ false
not_passed notes filters k lv group n filter are there its not =
    false_from_ne_true (both_name lv group n) (λ both.
    let within = slice_get_within notes k n there in
    let named : names_group n.written.items lv group ≡ true = (and_parts (names_group n.written.items lv group) _ both).0 in
    let same : get_or filters k [] ≡ filter = get_or_default filters k [] filter (omega (arith, are.as_many, within)) ∙ sym its in
    let e : true ≡ false = sym (are.pass k n there lv group named) ∙ ap (λ (f : List Bool). passes f group) same ∙ not in
    cc e)

-- where no note names anything any filters will do
pub filters_blank : (notes : List DiskNotes) (filters : List (List Bool)) → length filters ≡ length notes → All (λ (n : DiskNotes). n.written.items ≡ []) notes → AreFilters notes filters
filters_blank notes filters long blank = record {
  as_many = long;
  pass = λ k n there lv group named.
      let within = slice_get_within notes k n there in
      let is : n ≡ get_or notes k n = same_Some n (get_or notes k n) (sym there ∙ slice_get-get_or notes k n within) in
      let none : n.written.items ≡ [] = ap (λ (m : DiskNotes). m.written.items) is ∙ blank k n within in
      let e : false ≡ true = sym (ap (λ (l : List NoteEntry). names_group l lv group) none) ∙ named in
      absurd (cc (e));
}

-- ---- the notes of a disk change

module _ (notes : List DiskNotes) (filters : List (List Bool)) (k : ℕ) (row : DiskNotes) (are : AreFilters notes filters) (within : k < length notes) where
  -- what stands at a place then
  stands : (j : ℕ) (n : DiskNotes) → slice_get (set notes k row) j ≡ Some n → n ≡ get_or (set notes k row) j n
  stands j n there = same_Some n (get_or (set notes k row) j n) (sym there ∙ slice_get-get_or (set notes k row) j n (slice_get_within (set notes k row) j n there))

  other : (j : ℕ) (n : DiskNotes) → slice_get (set notes k row) j ≡ Some n → (k == j) ≡ false → slice_get notes j ≡ Some n
  other j n there is =
      let long = slice_get_within (set notes k row) j n there in
      slice_get-get_or notes j n (omega (arith, long, length-set notes k row)) ∙ ap (λ (m : DiskNotes). Some m) (sym (stands j n there ∙ get_or-set_other notes k j row n (λ e. eqb-false k j is (sym e))))

  here : (j : ℕ) (n : DiskNotes) → slice_get (set notes k row) j ≡ Some n → (k == j) ≡ true → n ≡ row
  here j n there is = stands j n there ∙ get_or-set_at notes k j row n (sym (eqb-true k j is)) within

  -- with a filter of the new one
  pub filters_set : (filter : List Bool) → PassesAll filter row.written.items → AreFilters (set notes k row) (set filters k filter)
  filters_set filter pass = record { as_many = length-set filters k filter ∙ are.as_many ∙ sym (length-set notes k row); pass = λ j n there. by j n there (k == j) refl }
    where
      by : (j : ℕ) (n : DiskNotes) → slice_get (set notes k row) j ≡ Some n → (b : Bool) → (k == j) ≡ b → PassesAll (get_or (set filters k filter) j []) n.written.items
      by j n there true is lv group named =
          ap (λ (f : List Bool). passes f group) (get_or-set_at filters k j filter [] (sym (eqb-true k j is)) (omega (arith, are.as_many, within)))
          ∙ pass lv group (sym (ap (λ (m : DiskNotes). names_group m.written.items lv group) (here j n there is)) ∙ named)
      by j n there false is lv group named =
          ap (λ (f : List Bool). passes f group) (get_or-set_other filters k j filter [] (λ e. eqb-false k j is (sym e))) ∙ are.pass j n (other j n there is) lv group named

  -- where what was written there stays
  pub filters_kept : (d : DiskNotes) → row.written ≡ (get_or notes k d).written → AreFilters (set notes k row) filters
  filters_kept d same = record { as_many = are.as_many ∙ sym (length-set notes k row); pass = λ j n there. by j n there (k == j) refl }
    where
      by : (j : ℕ) (n : DiskNotes) → slice_get (set notes k row) j ≡ Some n → (b : Bool) → (k == j) ≡ b → PassesAll (get_or filters j []) n.written.items
      by j n there true is lv group named =
          ap (λ (i : ℕ). passes (get_or filters i []) group) (sym (eqb-true k j is))
          ∙ are.pass k (get_or notes k d) (slice_get-get_or notes k d within) lv group
          (sym (ap (λ (m : DiskNotes). names_group m.written.items lv group) (here j n there is) ∙ ap (λ (w : ArrayVec NoteEntry). names_group w.items lv group) same) ∙ named)
      by j n there false is lv group named = are.pass j n (other j n there is) lv group named

-- ---- a disk comes or goes

-- one whose note names nothing may have any filter
pub filters_more : (notes : List DiskNotes) (filters : List (List Bool)) (n : DiskNotes) (filter : List Bool) → AreFilters notes filters → n.written.items ≡ [] → AreFilters (notes ++ n ∷ []) (filters ++ filter ∷ [])
filters_more notes filters n filter are none = record {
  as_many = (let many = are.as_many in omega (arith, many, length-append filters (filter ∷ []), length-append notes (n ∷ [])));
  pass = λ j m there lv group named.
      let long = slice_get_within (notes ++ n ∷ []) j m there in
      let many = are.as_many in
      let at : m ≡ get_or (notes ++ n ∷ []) j m = same_Some m (get_or (notes ++ n ∷ []) j m) (sym there ∙ slice_get-get_or (notes ++ n ∷ []) j m long) in
      elim (cases_lt j (length notes)) [
        | inl below ↦
            let its : slice_get notes j ≡ Some m = slice_get-get_or notes j m below ∙ ap (λ (x : DiskNotes). Some x) (sym (at ∙ get_or_append_left notes (n ∷ []) m j below)) in
            ap (λ (f : List Bool). passes f group) (get_or_append_left filters (filter ∷ []) [] j (omega (arith, below, many))) ∙ are.pass j m its lv group named
        | inr past ↦
            let last : ◌≡◌ {A = ℕ} (j - length notes) 0 = omega (arith, long, past, length-append notes (n ∷ [])) in
            let is : m ≡ n = at ∙ get_or-append_right notes (n ∷ []) (length notes) j m refl past ∙ ap (λ (i : ℕ). get_or (n ∷ []) i m) last in
            let e : false ≡ true = sym (ap (λ (x : DiskNotes). names_group x.written.items lv group) is ∙ ap (λ (l : List NoteEntry). names_group l lv group) none) ∙ named in
            absurd (cc (e))
      ];
}

pub filters_less : (notes : List DiskNotes) (filters : List (List Bool)) (k : ℕ) → k < length notes → AreFilters notes filters → AreFilters (remove notes k) (remove filters k)
filters_less notes filters k within are =
    let many = are.as_many in
    let within_too : k < length filters = omega (arith, many, within) in
    record {
      as_many = omega (arith, many, length-remove filters k within_too, length-remove notes k within);
      pass = λ j m there lv group named.
          let long = slice_get_within (remove notes k) j m there in
          let fewer = length-remove notes k within in
          let at : m ≡ get_or (remove notes k) j m = same_Some m (get_or (remove notes k) j m) (sym there ∙ slice_get-get_or (remove notes k) j m long) in
          elim (cases_lt j k) [
            | inl below ↦
                let its : slice_get notes j ≡ Some m = slice_get-get_or notes j m (omega (arith, below, within)) ∙ ap (λ (x : DiskNotes). Some x) (sym (at ∙ get_or-remove_below notes k m j below within)) in
                ap (λ (f : List Bool). passes f group) (get_or-remove_below filters k [] j below within_too) ∙ are.pass j m its lv group named
            | inr past ↦
                let its : slice_get notes (j + 1) ≡ Some m = slice_get-get_or notes (j + 1) m (omega (arith, long, fewer)) ∙ ap (λ (x : DiskNotes). Some x) (sym (at ∙ get_or-remove_above notes k m j past within)) in
                ap (λ (f : List Bool). passes f group) (get_or-remove_above filters k [] j past within_too) ∙ are.pass (j + 1) m its lv group named
          ];
    }
