-- The partitions that first fit gives a volume.
use Rattle.std.proofs.Common.{◌≡◌, ◌≢◌, inl, inr, ℕ, zero, suc, ◌+◌, ◌*◌, ◌<◌, ◌≤◌, true, ◌&&◌, List, [], ◌∷◌, length, get_or, take, drop, refl, sym, subst, ◌∙◌, arith}
use Rattle.std.specs.Prelude.{◌==◌, All, AllPairs, Contains, IsTrue}
use Rattle.std.proofs.lemmas.Option.{slice_get-get_or}
use Rattle.std.proofs.lemmas.Bool.{cases_lt, false≢true}
use Rattle.std.proofs.lemmas.List.{length-take-le, length-drop, get_or-take, get_or-drop, get_or_default}
use Rattle.std.proofs.lemmas.List.Folds.{list_any_at}
use Rattle.std.proofs.Math.Nat.{mul-le-mul_right}
use Rattle.lvm_num.specs.declared.place.Pp.{Pp}
use Rattle.lvm_num.specs.declared.descriptor.LvRow.{LvRow}
use Rattle.lvm_num.specs.declared.descriptor.Descriptor.{Descriptor}
use Rattle.lvm_num.specs.Descriptor.{IsPartitionOf, IsValid, copies_of, partitions_used}
use Rattle.lvm_num.specs.Disks.{Disks}
use Rattle.lvm_map.specs.FirstFit.{is_among, IsAllocated, new_volume}
use Rattle.lvm_map.specs.Laws.{IsNewPlace}
use Rattle.lvm_map.proofs.FirstFitLemmas.FreeLists.{is_pp-same}
use Rattle.lvm_map.proofs.LawsLemmas.NewPlaces.{new_place}
use Rattle.lvm_kept.specs.Group.{IsOneOf}

among_is : (xs : List Pp) (pp : Pp) → Contains xs pp → is_among xs pp ≡ true
among_is xs pp has = list_any_at (λ (p : Pp). p.disk == pp.disk && p.pp == pp.pp) xs has.0 pp has.1 (is_pp-same (get_or xs has.0 pp) pp has.2)

module _ (d : Descriptor) (usable : Disks) (lps copies : ℕ) (map : List Pp) (valid : IsValid d) (all : IsAllocated d usable (new_volume lps copies) map) where
  place : (k : ℕ) (e : Pp) → k < length map → IsNewPlace d usable (new_volume lps copies) (take k map) (get_or map k e)
  place k e lt = new_place d usable (new_volume lps copies) map k (get_or map k e) valid all.fits (slice_get-get_or map k e lt) (omega arith)

  -- they are partitions of usable members,
  pub places_of : All (IsPartitionOf d) map
  places_of k e lt = let new = place k e lt in (new.row, new.member, new.within)

  pub usable_of : All (λ (pp : Pp). IsTrue (usable pp.disk)) map
  usable_of k e lt = (place k e lt).is_usable

  -- of no volume,
  pub free_of : All (λ (pp : Pp). Contains (partitions_used d) pp → ⊥) map
  free_of k e lt has = false≢true (sym (place k e lt).free ∙ among_is (partitions_used d) (get_or map k e) has)

  -- and each once
  pub once_of : AllPairs (λ (a b : Pp). a ≢ b) map
  once_of i j e less lt same =
      let size : length (take j map) ≡ j = length-take-le j map (omega (arith, lt)) in
      let at : get_or (take j map) i (get_or map j e) ≡ get_or map j e = get_or-take j map i (get_or map j e) less ∙ get_or_default map i (get_or map j e) e (omega (arith, less, lt)) ∙ same in
      false≢true (sym (place j e lt).new ∙ among_is (take j map) (get_or map j e) (i, omega (arith, size, less), at))

-- ---- the copies

its_first : (n : ℕ) (xs : List Pp) (e : Pp) → 1 ≤ n → 0 < length xs → IsOneOf (take n xs) (get_or xs 0 e)
its_first zero xs e some lt = absurd (omega (arith, some))
its_first (suc n) [] e some lt = absurd (omega (arith, lt))
its_first (suc n) (x ∷ xs) e some lt = inl refl

-- the first copy of a logical partition
pub its_copy : (row : LvRow) (lp : ℕ) (e : Pp) → 1 ≤ row.copies → lp * row.copies < length row.map → IsOneOf (copies_of row lp) (get_or row.map (lp * row.copies + 0) e)
its_copy row lp e some lt =
    subst (λ (p : Pp). IsOneOf (copies_of row lp) p) (get_or-drop (lp * row.copies) row.map 0 e) (its_first row.copies (drop (lp * row.copies) row.map) e some (omega (arith, lt, length-drop (lp * row.copies) row.map)))

in_front : (n : ℕ) (xs : List Pp) (p : Pp) → IsOneOf (take n xs) p → (k : ℕ) × (k < n) × (k < length xs) × (get_or xs k p ≡ p)
in_front zero xs p one = absurd one
in_front (suc n) [] p one = absurd one
in_front (suc n) (x ∷ xs) p (inl here) = (0, omega arith, omega arith, sym here)
in_front (suc n) (x ∷ xs) p (inr there) = let at = in_front n xs p there in (suc at.0, omega (arith, at.1), omega (arith, at.2), at.3)

lower : (row : LvRow) (a b : ℕ) (p : Pp) → AllPairs (λ (x y : Pp). x ≢ y) row.map → a < b → IsOneOf (copies_of row a) p → IsOneOf (copies_of row b) p → ⊥
lower row a b p apart less one other =
    let le : suc a * row.copies ≤ b * row.copies = mul-le-mul_right row.copies less in
    let first = in_front row.copies (drop (a * row.copies) row.map) p one in
    let last = in_front row.copies (drop (b * row.copies) row.map) p other in
    let long = length-drop (b * row.copies) row.map in
    let at_first : get_or row.map (a * row.copies + first.0) p ≡ p = sym (get_or-drop (a * row.copies) row.map first.0 p) ∙ first.3 in
    let at_last : get_or row.map (b * row.copies + last.0) p ≡ p = sym (get_or-drop (b * row.copies) row.map last.0 p) ∙ last.3 in
    apart (a * row.copies + first.0) (b * row.copies + last.0) p (omega (arith, le, first.1)) (omega (arith, long, last.2)) (at_first ∙ sym at_last)

-- two logical partitions share no copy
pub one_partition : (row : LvRow) (a b : ℕ) (p : Pp) → AllPairs (λ (x y : Pp). x ≢ y) row.map → IsOneOf (copies_of row a) p → IsOneOf (copies_of row b) p → a ≡ b
one_partition row a b p apart one other = elim (cases_lt a b) [
  | inl less ↦ absurd (lower row a b p apart less one other)
  | inr more ↦ elim (cases_lt b a) [
    | inl greater ↦ absurd (lower row b a p apart greater other one)
    | inr equal ↦ omega (arith, more, equal)
  ]
]
