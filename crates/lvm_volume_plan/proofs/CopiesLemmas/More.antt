-- A descriptor in which a volume has more copies, and what the further ones are.
use Rattle.std.proofs.Common.{◌≡◌, ◌≢◌, ◌⊎◌, inl, inr, ⊎_elim, ℕ, zero, suc, ◌+◌, ◌*◌, ◌%◌, ◌<◌, ◌≤◌, true, ◌&&◌, List, [], ◌∷◌, length, get_or, take, drop, Some, sym, ap, subst, ◌∙◌, arith}
use Rattle.std.specs.Prelude.{◌==◌, All, Contains, IsTrue, slice_get}
use Rattle.std.proofs.lemmas.Option.{slice_get-get_or}
use Rattle.std.proofs.lemmas.Bool.{false≢true, cases_lt}
use Rattle.std.proofs.lemmas.List.{length-take-le, length-drop, get_or-take, get_or-drop, take-append-drop}
use Rattle.std.proofs.lemmas.List.Folds.{list_any_at}
use Rattle.std.proofs.Math.Nat.{mul-le-mul_right}
use Rattle.lvm_num.specs.declared.place.Pp.{Pp}
use Rattle.lvm_num.specs.declared.descriptor.LvRow.{LvRow}
use Rattle.lvm_num.specs.declared.descriptor.Descriptor.{Descriptor}
use Rattle.lvm_num.specs.Descriptor.{IsPartitionOf, IsValid, copies_of, partitions_used, volume_of}
use Rattle.lvm_num.specs.Disks.{Disks}
use Rattle.lvm_num.proofs.AmongLemmas.{one_of_either, one_of_left}
use Rattle.lvm_map.specs.FirstFit.{is_among, IsAllocated, more_copies}
use Rattle.lvm_map.specs.Laws.{IsNewPlace}
use Rattle.lvm_map.proofs.FirstFitLemmas.FreeLists.{is_pp-same}
use Rattle.lvm_map.proofs.LawsLemmas.NewPlaces.{new_place}
use Rattle.lvm_map.proofs.PlacesLemmas.{volume_at, laid_out}
use Rattle.lvm_map.proofs.FirstFitLemmas.Validity.{more_are_valid, copies_stay}
use Rattle.lvm_kept.specs.Group.{IsOneOf}
use Rattle.lvm_volume_plan.proofs.passed.Commit.{contains}
use Rattle.lvm_volume_plan.specs.Copies.{with_map, with_copies, further_copies}
use Rattle.lvm_volume_plan.proofs.Parts.{IsPart, all_of, one_part}
use Rattle.lvm_volume_plan.proofs.CopiesLemmas.Rows.{is_set}

among_is : (xs : List Pp) (pp : Pp) → Contains xs pp → is_among xs pp ≡ true
among_is xs pp has = list_any_at (λ (p : Pp). p.disk == pp.disk && p.pp == pp.pp) xs has.0 pp has.1 (is_pp-same (get_or xs has.0 pp) pp has.2)

-- behind the last logical partition there is no copy
pub none_past : (row : LvRow) (lp : ℕ) (p : Pp) → length row.map ≡ row.lps * row.copies → row.lps ≤ lp → IsOneOf (copies_of row lp) p → ⊥
none_past row lp p whole past one =
    let more : row.lps * row.copies ≤ lp * row.copies = mul-le-mul_right row.copies past in
    let rest = length-drop (lp * row.copies) row.map in
    empty row.copies (drop (lp * row.copies) row.map) (omega (arith, rest, more, whole)) one
  where
    empty : (n : ℕ) (xs : List Pp) → length xs ≡ 0 → IsOneOf (take n xs) p → ⊥
    empty zero xs size one = one
    empty (suc n) [] size one = one
    empty (suc n) (x ∷ xs) size one = absurd (omega (arith, size))

module _ (d : Descriptor) (usable : Disks) (lv copies : ℕ) (row : LvRow) (pps : List Pp) (valid : IsValid d) (volume : volume_of d lv ≡ Some row) (more : row.copies < copies) (all : IsAllocated d usable (more_copies row copies) pps) where
  abbrev new : LvRow
  new = with_map row copies pps

  abbrev next : Descriptor
  next = with_copies d lv copies pps

  pub valid_more : copies ≤ 3 → IsValid next
  valid_more most =
      let at = volume_at d lv row volume in
      let there : slice_get d.lvs at.place ≡ Some row = slice_get-get_or d.lvs at.place row at.within ∙ ap Some (at.there row) in
      subst (λ (rows : List LvRow). IsValid (record d { lvs = rows })) (sym (is_set lv copies pps d.lvs at.place row valid.volumes.numbers_rise there at.its))
      (more_are_valid d usable row at.place copies pps valid there more most all)

  -- ---- the further copies

  -- of a logical partition
  abbrev behind : ℕ → List Pp
  behind lp = drop row.copies (copies_of new lp)

  part : (lp : ℕ) → lp < row.lps → IsPart pps copies row.copies lp (behind lp)
  part lp lt =
      let step : suc lp * copies ≤ row.lps * copies = mul-le-mul_right copies lt in
      let whole = all.whole in
      let inside : lp * copies + copies ≤ length pps = omega (arith, step, whole) in
      let rest = length-drop (lp * copies) pps in
      let size : length (copies_of new lp) ≡ copies = length-take-le copies (drop (lp * copies) pps) (omega (arith, rest, inside)) in
      let own = length-drop row.copies (copies_of new lp) in
      record {
        within = omega (arith, own, size, more);
        inside = inside;
        at = λ i e i-lt.
            get_or-drop row.copies (copies_of new lp) i e
            ∙ get_or-take copies (drop (lp * copies) pps) (row.copies + i) e (omega (arith, i-lt, own, size))
            ∙ get_or-drop (lp * copies) pps (row.copies + i) e;
      }

  place : (k : ℕ) (e : Pp) → k < length pps → row.copies ≤ k % copies → IsNewPlace d usable (more_copies row copies) (take k pps) (get_or pps k e)
  place k e lt past = new_place d usable (more_copies row copies) pps k (get_or pps k e) valid all.fits (slice_get-get_or pps k e lt) past

  -- they are partitions of usable members,
  pub places_of : All (IsPartitionOf d) (further_copies new row.copies)
  places_of = all_of pps copies row.copies behind (IsPartitionOf d) (λ k e lt past. let it = place k e lt past in (it.row, it.member, it.within)) 0 row.lps (λ lp lt. part lp (omega (arith, lt)))

  pub usable_of : All (λ (p : Pp). IsTrue (usable p.disk)) (further_copies new row.copies)
  usable_of = all_of pps copies row.copies behind (λ (p : Pp). IsTrue (usable p.disk)) (λ k e lt past. (place k e lt past).is_usable) 0 row.lps (λ lp lt. part lp (omega (arith, lt)))

  -- of no volume
  pub free_of : All (λ (p : Pp). Contains (partitions_used d) p → ⊥) (further_copies new row.copies)
  free_of = all_of pps copies row.copies behind (λ (p : Pp). Contains (partitions_used d) p → ⊥)
      (λ k e lt past has. false≢true (sym (place k e lt past).free ∙ among_is (partitions_used d) (get_or pps k e) has)) 0 row.lps (λ lp lt. part lp (omega (arith, lt)))

  -- ---- the copies

  -- the old ones stay
  pub old_copies : (lp : ℕ) (p : Pp) → lp < row.lps → IsOneOf (copies_of row lp) p → IsOneOf (copies_of new lp) p
  old_copies lp p lt one = subst (λ (xs : List Pp). IsOneOf xs p) (take-append-drop row.copies (copies_of new lp))
      (one_of_left (take row.copies (copies_of new lp)) (behind lp) p (subst (λ (xs : List Pp). IsOneOf xs p) (sym (copies_stay d usable row copies pps lp (laid_out d lv row valid volume).whole more all lt)) one))

  -- and each of the others is a further one
  pub old_or_further : (lp : ℕ) (p : Pp) → IsOneOf (copies_of new lp) p → IsOneOf (copies_of row lp) p ⊎ Contains (further_copies new row.copies) p
  old_or_further lp p one = elim (cases_lt lp row.lps) [
    | inl lt ↦ ⊎_elim
        (λ old. inl (subst (λ (xs : List Pp). IsOneOf xs p) (copies_stay d usable row copies pps lp (laid_out d lv row valid volume).whole more all lt) old))
        (λ further. inr (contains (further_copies new row.copies) p (one_part behind p 0 row.lps lp lt (subst (λ (m : ℕ). IsOneOf (behind m) p) (let here : lp ≡ 0 + lp = omega arith in here) further))))
        (one_of_either (take row.copies (copies_of new lp)) (behind lp) p (subst (λ (xs : List Pp). IsOneOf xs p) (sym (take-append-drop row.copies (copies_of new lp))) one))
    | inr past ↦ absurd (none_past new lp p all.whole past one)
  ]
