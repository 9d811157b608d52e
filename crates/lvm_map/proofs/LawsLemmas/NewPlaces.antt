-- What first fit chooses is free.
use Rattle.std.proofs.Common.{◌≡◌, ◌≢◌, ℕ, zero, suc, ◌%◌, ◌<◌, ◌≤◌, Bool, true, false, cond, ◌&&◌, not, List, [], ◌∷◌, ◌++◌, length, get_or, take, Some, nat_lt, refl, sym, ap, subst, ◌∙◌, arith, rules}
use Rattle.std.specs.Prelude.{◌==◌, All, AllPairs, find, filter, flat_map, slice_get}
use Rattle.std.proofs.lemmas.Option.{slice_get_within}
use Rattle.std.proofs.lemmas.Bool.{eq-eqb, not-true, or_parts}
use Rattle.std.proofs.lemmas.Bool.Decides.{nat_tests}
use Rattle.std.proofs.lemmas.List.{length-take-le}
use Rattle.std.proofs.lemmas.List.Elements.{All-head, All-filter, filter_passes}
use Rattle.std.proofs.lemmas.List.Folds.{list_any-append}
use Rattle.lvm_num.specs.declared.place.Pp.{Pp}
use Rattle.lvm_num.specs.declared.descriptor.PvRow.{PvRow}
use Rattle.lvm_num.specs.declared.descriptor.Descriptor.{Descriptor}
use Rattle.lvm_num.specs.Descriptor.{IsValid, member_of, partitions_used}
use Rattle.lvm_num.specs.Disks.{Disks}
use Rattle.lvm_num.proofs.Pairs.{AllPairs-right}
use Rattle.lvm_num.proofs.Lists.{pairs_head}
use Rattle.lvm_map.specs.FirstFit.{is_among, has_partition_on, partitions_of, free_of, may_take, choices, Asked, others_in, kept_next, IsFirstFit}
use Rattle.lvm_map.specs.Laws.{IsNewPlace}
use Rattle.lvm_map.proofs.FirstFitLemmas.FreeLists.{free-head_disk, partitions-at, partitions-size}

-- ---- the member of a choice

-- a member that may take a copy, with the first of its free partitions
record IsChoice (p : PvRow → Bool) (used : List Pp) (rows : List PvRow) (pp : Pp) : Type 0 where
  place : ℕ
  row : PvRow
  within : place < length rows
  there : (e : PvRow) → get_or rows place e ≡ row
  takes : p row ≡ true
  rest : List Pp
  free : free_of used row ≡ pp ∷ rest

later : (p : PvRow → Bool) (used : List Pp) (row : PvRow) (rows : List PvRow) (pp : Pp) → IsChoice p used rows pp → IsChoice p used (row ∷ rows) pp
later p used row rows pp c = record {
  place = suc c.place;
  row = c.row;
  within = omega (arith, c.within);
  there = c.there;
  takes = c.takes;
  rest = c.rest;
  free = c.free;
}

choice_of : (p : PvRow → Bool) (used : List Pp) (rows : List PvRow) (pp : Pp) → slice_get (flat_map (free_of used) (filter p rows)) 0 ≡ Some pp → IsChoice p used rows pp
choice_of p used [] pp is = absurd cc
choice_of p used (row ∷ rows) pp is = by_test (choice_of p used rows pp) (p row) refl is
  where
    by_free : (free : List Pp) → free_of used row ≡ free → p row ≡ true → (slice_get (flat_map (free_of used) (filter p rows)) 0 ≡ Some pp → IsChoice p used rows pp)
        → slice_get (free ++ flat_map (free_of used) (filter p rows)) 0 ≡ Some pp → IsChoice p used (row ∷ rows) pp
    by_free [] own takes rest at = later p used row rows pp (rest at)
    by_free (first ∷ free) own takes rest at =
        let same : first ≡ pp = cc in
        record {
          place = 0;
          row = row;
          within = omega arith;
          there = λ e. refl;
          takes = takes;
          rest = free;
          free = own ∙ ap (λ (x : Pp). x ∷ free) same;
        }

    by_test : (slice_get (flat_map (free_of used) (filter p rows)) 0 ≡ Some pp → IsChoice p used rows pp)
        → (b : Bool) → p row ≡ b → slice_get (flat_map (free_of used) (cond b (row ∷ filter p rows) (filter p rows))) 0 ≡ Some pp → IsChoice p used (row ∷ rows) pp
    by_test rest true test at = by_free (free_of used row) refl test rest at
    by_test rest false test at = later p used row rows pp (rest at)

-- the row of a member's disk
member_is : (rows : List PvRow) (i : ℕ) (row : PvRow) → AllPairs (λ (a b : PvRow). a.disk ≢ b.disk) rows → i < length rows → ((e : PvRow) → get_or rows i e ≡ row)
    → find (λ (r : PvRow). r.disk == row.disk) rows ≡ Some row
member_is [] i row apart lt there = absurd (omega arith)
member_is (first ∷ rows) zero row apart lt there =
    let same : first ≡ row = there row in
    ap (λ b. cond b (Some first) (find (λ (r : PvRow). r.disk == row.disk) rows)) (eq-eqb first.disk row.disk (ap (λ (r : PvRow). r.disk) same)) ∙ ap (λ (r : PvRow). Some r) same
member_is (first ∷ rows) (suc i) row apart lt there =
    let differs : first.disk ≢ row.disk = λ same. pairs_head (λ (a b : PvRow). a.disk ≢ b.disk) first rows apart i row (omega arith) (same ∙ ap (λ (r : PvRow). r.disk) (sym (there row))) in
    let test : first.disk == row.disk ≡ false = grind (arith, nat_tests) in
    ap (λ b. cond b (Some first) (find (λ (r : PvRow). r.disk == row.disk) rows)) test
    ∙ member_is rows i row (AllPairs-right (λ (a b : PvRow). a.disk ≢ b.disk) (first ∷ []) rows apart) (omega arith) there

-- ---- what it passes

numbers_below : (row : PvRow) → All (λ (pp : Pp). pp.pp < row.pps) (partitions_of row)
numbers_below row k d lt =
    let size = partitions-size row in
    let number = ap (λ (pp : Pp). pp.pp) (partitions-at row k d (omega arith)) in
    omega arith

head_below : (used : List Pp) (row : PvRow) (pp : Pp) (rest : List Pp) → free_of used row ≡ pp ∷ rest → pp.pp < row.pps
head_below used row pp rest is =
    All-head (λ (p : Pp). p.pp < row.pps) pp rest
    (subst (All (λ (p : Pp). p.pp < row.pps)) is (All-filter (λ p. not (is_among used p)) (λ (p : Pp). p.pp < row.pps) (partitions_of row) (numbers_below row)))

head_free : (used : List Pp) (row : PvRow) (pp : Pp) (rest : List Pp) → free_of used row ≡ pp ∷ rest → is_among used pp ≡ false
head_free used row pp rest is =
    not-true (is_among used pp)
    (All-head (λ (p : Pp). not (is_among used p) ≡ true) pp rest
    (subst (All (λ (p : Pp). not (is_among used p) ≡ true)) is (filter_passes (λ p. not (is_among used p)) (partitions_of row))))

and_parts : (a b c : Bool) → a && not b && not c ≡ true → (a ≡ true) × (b ≡ false) × (c ≡ false)
and_parts true false false is = (refl, refl, refl)
and_parts true false true is = absurd cc
and_parts true true c is = absurd cc
and_parts false b c is = absurd cc

-- ---- a copy that isn't kept

pub new_place : (d : Descriptor) (usable : Disks) (asked : Asked) (pps : List Pp) (k : ℕ) (pp : Pp) → IsValid d → IsFirstFit d usable asked pps
    → slice_get pps k ≡ Some pp → asked.kept ≤ k % asked.copies → IsNewPlace d usable asked (take k pps) pp
new_place d usable asked pps k pp valid fits is new =
    let lt : k < length pps = slice_get_within pps k pp is in
    let front = take k pps in
    let size : length front ≡ k = length-take-le k pps (omega arith) in
    let past : asked.kept ≤ length front % asked.copies = subst (λ n. asked.kept ≤ n % asked.copies) (sym size) new in
    let test : nat_lt (length front % asked.copies) asked.kept ≡ false = grind (arith, nat_tests) in
    let next : slice_get (choices d usable (partitions_used d ++ front) (others_in asked front)) 0 ≡ Some pp =
    ap (λ b. cond b (kept_next asked front) (slice_get (choices d usable (partitions_used d ++ front) (others_in asked front)) 0)) (sym test) ∙ fits k lt ∙ is in
    let choice = choice_of (may_take usable (others_in asked front)) (partitions_used d ++ front) d.pvs pp next in
    let row = choice.row in
    let disk : pp.disk ≡ row.disk = free-head_disk (partitions_used d ++ front) row pp choice.rest choice.free in
    let takes = and_parts (usable row.disk) row.spare (has_partition_on (others_in asked front) row.disk) choice.takes in
    let unused = or_parts (is_among (partitions_used d) pp) (is_among front pp)
    (sym (list_any-append (λ (p : Pp). p.disk == pp.disk && p.pp == pp.pp) (partitions_used d) front) ∙ head_free (partitions_used d ++ front) row pp choice.rest choice.free) in
    let member = member_is d.pvs choice.place row valid.members.disks_differ choice.within choice.there in
    record {
      row = row;
      member = ap (member_of d) disk ∙ member;
      within = head_below (partitions_used d ++ front) row pp choice.rest choice.free;
      is_usable = search (rules, ap usable disk ∙ takes.0);
      no_spare = takes.1;
      free = unused.0;
      new = unused.1;
      apart = ap (has_partition_on (others_in asked front)) disk ∙ takes.2;
    }
