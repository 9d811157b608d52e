-- The marks of the partitions that volumes use.
use Rattle.std.proofs.Common.{◌≡◌, inl, inr, ℕ, zero, suc, ◌*◌, ◌+◌, ◌<◌, ◌≤◌, Bool, true, false, cond, ◌||◌, not, List, [], ◌∷◌, ◌++◌, map, get_or, refl, sym, ap, ◌∙◌, arith}
use Rattle.std.specs.Prelude.{◌==◌, All, filter}
use Rattle.std.specs.List.{list_any, range_with_len}
use Rattle.std.proofs.lemmas.Bool.{cases_Bool, eqb-true, eq-eqb}
use Rattle.std.proofs.lemmas.List.Elements.{All-head, All-tail, All-weaker}
use Rattle.std.proofs.lemmas.List.FromFn.{filter_of_map_range_with_len_more}
use Rattle.lvm_num.specs.declared.place.Pp.{Pp}
use Rattle.lvm_num.specs.declared.descriptor.PvRow.{PvRow}
use Rattle.lvm_num.specs.declared.descriptor.LvRow.{LvRow}
use Rattle.lvm_num.specs.declared.descriptor.Descriptor.{Descriptor}
use Rattle.lvm_num.specs.Bits.{has_bit}
use Rattle.lvm_num.specs.Descriptor.{IsPartitionOf, IsValid, partitions_in, partitions_used, is_pp}
use Rattle.lvm_num.specs.Marks.{spot}
use Rattle.lvm_num.proofs.Pairs.{All-left, All-right}
use Rattle.lvm_num.proofs.MarksLemmas.Spots.{bounded}
use Rattle.lvm_map.specs.FirstFit.{is_among, partitions_of, free_of}
use Rattle.lvm_map.specs.FreePartitions.{IsBounded}
use Rattle.lvm_map.proofs.FirstFitLemmas.FreeLists.{is_pp-same, is_pp-apart, filter_same, partitions-at, partitions-size}

-- the partitions that volumes use are of disks of the shelf
pub used_bounded : (d : Descriptor) → IsValid d → All IsBounded (partitions_used d)
used_bounded d valid = All-weaker (IsPartitionOf d) IsBounded (bounded d valid) (partitions_used d) valid.maps.places

-- and so are those of each volume
maps_bounded : (rows : List LvRow) → All IsBounded (partitions_in rows) → All (λ (row : LvRow). All IsBounded row.map) rows
maps_bounded [] all k d lt = absurd (omega (arith, lt))
maps_bounded (row ∷ rows) all zero d lt = All-left IsBounded row.map (partitions_in rows) all
maps_bounded (row ∷ rows) all (suc k) d lt = maps_bounded rows (All-right IsBounded row.map (partitions_in rows) all) k d (omega (arith, lt))

pub map_bounded : (d : Descriptor) → IsValid d → All (λ (row : LvRow). All IsBounded row.map) d.lvs
map_bounded d valid = maps_bounded d.lvs (used_bounded d valid)

-- ---- marks as numbers and as partitions

spot_is : (pp x : Pp) → IsBounded pp → x.pp < 1016 → spot x == spot pp ≡ is_pp pp x
spot_is pp x bound low = elim (cases_Bool (spot x == spot pp)) [
  | inl is ↦
      let number : 1016 * x.disk + x.pp ≡ 1016 * pp.disk + pp.pp = eqb-true (spot x) (spot pp) is in
      let top : pp.pp < 1016 = bound.number in
      let disk : pp.disk ≡ x.disk = omega arith in
      let place : pp.pp ≡ x.pp = omega arith in
      is ∙ sym (is_pp-same pp x (λ t. record { disk = disk t; pp = place t }))
  | inr isnt ↦
      isnt ∙ sym (is_pp-apart pp x (λ e. true_false (sym (eq-eqb (spot x) (spot pp) (ap spot (sym e))) ∙ isnt)))
]
  where
    true_false : true ≡ false → ⊥
    true_false e = cc

marks_among : (used : List Pp) (x : Pp) → All IsBounded used → x.pp < 1016 → list_any (λ (pp : Pp). spot x == spot pp) used ≡ is_among used x
marks_among [] x all low = refl
marks_among (pp ∷ used) x all low =
    let here : spot x == spot pp ≡ is_pp pp x = spot_is pp x (All-head IsBounded pp used all) low in
    let rest : list_any (λ (p : Pp). spot x == spot p) used ≡ is_among used x = marks_among used x (All-tail IsBounded pp used all) low in
    λ t. here t || rest t

-- what isn't marked is free
pub marks_free : (marks : List ℕ) (used : List Pp) (row : PvRow) → ((k : ℕ) → has_bit marks k ≡ list_any (λ (pp : Pp). k == spot pp) used)
    → All IsBounded used → row.pps ≤ 1016 → filter (λ (pp : Pp). not (has_bit marks (spot pp))) (partitions_of row) ≡ free_of used row
marks_free marks used row says all most =
    filter_same (λ (pp : Pp). not (has_bit marks (spot pp))) (λ pp. not (is_among used pp)) (partitions_of row)
    (λ k d lt.
    let size = partitions-size row in
    let x = get_or (partitions_of row) k d in
    let number : x.pp ≡ k = ap (λ (pp : Pp). pp.pp) (partitions-at row k d (omega arith)) in
    ap not (says (spot x) ∙ marks_among used x all (omega arith)))

-- one more partition of a member is looked at
pub filter-next : (p : Pp → Bool) (row : PvRow) (k : ℕ) (before after : List Pp)
    → before ≡ filter p (map (λ (n : ℕ). let pp : Pp = record { disk = row.disk; pp = n } in pp) (range_with_len 0 k))
    → after ≡ before ++ cond (p (record { disk = row.disk; pp = k })) (record { disk = row.disk; pp = k } ∷ []) []
    → after ≡ filter p (map (λ (n : ℕ). let pp : Pp = record { disk = row.disk; pp = n } in pp) (range_with_len 0 (k + 1)))
filter-next p row k before after old step =
    let pp : Pp = record { disk = row.disk; pp = k } in
    step
    ∙ ap (λ (pps : List Pp). pps ++ cond (p pp) (pp ∷ []) []) old
    ∙ sym (filter_of_map_range_with_len_more p (λ (n : ℕ). let it : Pp = record { disk = row.disk; pp = n } in it) 0 k k (omega arith))
