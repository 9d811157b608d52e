-- The rows of a group, and the track groups of a volume, one by one.
use Rattle.std.proofs.Common.{◌≡◌, ℕ, zero, suc, ◌+◌, ◌-◌, ◌<◌, ◌≤◌, ◌++◌, Bool, true, false, List, [], ◌∷◌, Some, length, slice_index_or, slice_get, take, drop, filter, flat_map, map, refl, sym, ap, ◌∙◌, arith, add-one, mul-le-mul_right, All}
use Rattle.std.specs.Prelude.{if◌then◌else◌, ◌*◌, ◌^◌}
use Rattle.std.proofs.lemmas.List.{length-drop, take_all}
use Rattle.std.proofs.lemmas.List.Elements.{filter-append}
use Rattle.std.specs.List.{range_with_len}
use Rattle.std.proofs.lemmas.List.FromFn.{length-range_with_len, get_or-range_with_len}
use Rattle.lvm_num.specs.declared.place.Pp.{Pp}
use Rattle.lvm_num.specs.declared.place.Place.{Place}
use Rattle.lvm_num.specs.declared.descriptor.LvRow.{LvRow}
use Rattle.lvm_num.specs.declared.descriptor.Descriptor.{Descriptor}
use Rattle.lvm_num.specs.Descriptor.{IsValid, IsLaidOut}
use Rattle.lvm_num.proofs.AmongLemmas.{all_one, one_at}
use Rattle.lvm_num.proofs.Fronts.{suc_front}
use Rattle.lvm_kept.specs.Group.{IsOneOf}
use Rattle.lvm_map.specs.Places.{place_on}
use Rattle.lvm_recovery.specs.declared.copying.Recopy.{Recopy}
use Rattle.lvm_recover.proofs.passed.Even.{row_is_volume}
use Rattle.lvm_recovery.proofs.PlanLemmas.Planning.{places_below}
use Rattle.lvm_recovery.proofs.CopyingLemmas.AllCopied.{at_index}
use Rattle.lvm_num.specs.declared.status.Status.{Status}
use Rattle.lvm_num.specs.Disks.{Disks}
use Rattle.lvm_recovery.specs.Plan.{usable_by, copies_from}
use Rattle.lvm_recovery.specs.Dirty.{IsFirstAt, one_to, copy_to}

module _ (group : Descriptor) (valid : IsValid group) (i : ℕ) (d : LvRow) (low : i < length group.lvs) where
  abbrev row : LvRow
  row = slice_index_or group.lvs i d

  one : IsOneOf group.lvs row
  one = one_at group.lvs i row (at_index group.lvs i d low)

  pub row_laid_out : IsLaidOut row
  row_laid_out = all_one IsLaidOut group.lvs row valid.maps.laid_out one

  pub row_places : All (λ p. p.disk < 128) row.map
  row_places = places_below group group.lvs row.number row valid refl (sym (row_is_volume group row valid one))

pub rows_laid_out : (group : Descriptor) → IsValid group → All IsLaidOut group.lvs
rows_laid_out group valid = λ i d low. row_laid_out group valid i d low

pub rows_places : (group : Descriptor) → IsValid group → All (λ (row : LvRow). All (λ p. p.disk < 128) row.map) group.lvs
rows_places group valid = λ i d low. row_places group valid i d low

pub range_low : (n i : ℕ) → i < n → i < length (range_with_len 0 n)
range_low n i low = let long = length-range_with_len 0 n in omega (arith, long, low)

pub range_at : (n i d : ℕ) → i < n → slice_index_or (range_with_len 0 n) i d ≡ i
range_at n i d low = let at = get_or-range_with_len 0 n i d low in omega (arith, at)

pub range_all : (n i : ℕ) → n ≤ i → length (range_with_len 0 n) ≤ i
range_all n i all = let long = length-range_with_len 0 n in omega (arith, long, all)

-- ---- the copies of a logical partition

module _ (u : Pp → Bool) where
  first_split : (pps : List Pp) (k : ℕ) (p : Pp) → slice_get pps k ≡ Some p → filter u (take k pps) ≡ [] → u p ≡ true → filter u pps ≡ p ∷ filter u (drop (suc k) pps)
  first_split [] k p at none is = absurd cc
  first_split (x ∷ pps) zero p at none is =
      let same : x ≡ p = cc in
      ap (λ (t : Bool). if t then x ∷ filter u pps else filter u pps) (ap u same ∙ is) ∙ ap (λ (y : Pp). y ∷ filter u pps) same
  first_split (x ∷ pps) (suc k) p at none is = by (u x) refl none (λ empty. first_split pps k p at empty is)
    where
      by : (t : Bool) → u x ≡ t → (if t then x ∷ filter u (take k pps) else filter u (take k pps)) ≡ [] → (filter u (take k pps) ≡ [] → filter u pps ≡ p ∷ filter u (drop (suc k) pps)) → filter u (x ∷ pps) ≡ p ∷ filter u (drop (suc k) pps)
      by true e empty rest = absurd cc
      by false e empty rest = ap (λ (t : Bool). if t then x ∷ filter u pps else filter u pps) e ∙ rest empty

  pub first_found : (pps : List Pp) (k : ℕ) (p : Pp) → slice_get pps k ≡ Some p → filter u (take k pps) ≡ [] → u p ≡ true → IsFirstAt u pps k
  first_found pps k p at none is = record { first = p; at = at; is = first_split pps k p at none is ∙ ap (λ (n : ℕ). p ∷ filter u (drop n pps)) (sym (add-one k)) }

  pub passed_over : (pps : List Pp) (k : ℕ) (p : Pp) → slice_get pps k ≡ Some p → filter u (take k pps) ≡ [] → u p ≡ false → filter u (take (k + 1) pps) ≡ []
  passed_over pps k p at none is = ap (filter u) (ap (λ (n : ℕ). take n pps) (add-one k) ∙ suc_front pps k p at) ∙ filter-append u (take k pps) (p ∷ []) ∙ ap (λ (l : List Pp). l ++ filter u (p ∷ [])) none ∙ ap (λ (t : Bool). if t then p ∷ [] else []) is

  pub none_found : (pps : List Pp) (k : ℕ) → length pps ≤ k → filter u (take k pps) ≡ [] → filter u pps ≡ []
  none_found pps k all none = ap (filter u) (sym (take_all k pps all)) ∙ none

module _ (mib block : ℕ) (status : Status) (disks : Disks) where
  -- to each usable one of some
  each_to : (from : Place) (pps : List Pp) → flat_map (copy_to mib block status disks from) pps ≡ map (one_to mib block from) (filter (usable_by status disks) pps)
  each_to from [] = refl
  each_to from (p ∷ pps) = by (usable_by status disks p) (each_to from pps)
    where
      by : (t : Bool) → flat_map (copy_to mib block status disks from) pps ≡ map (one_to mib block from) (filter (usable_by status disks) pps)
          → (if t then one_to mib block from p ∷ [] else []) ++ flat_map (copy_to mib block status disks from) pps ≡ map (one_to mib block from) (if t then p ∷ filter (usable_by status disks) pps else filter (usable_by status disks) pps)
      by true rest = ap (λ (l : List Recopy). one_to mib block from p ∷ l) rest
      by false rest = rest

  -- what is to be copied from the first one to the further ones
  pub rest_is : (pps : List Pp) (k : ℕ) (from : Place) (found : IsFirstAt (usable_by status disks) pps k) → from ≡ place_on mib found.first block
      → copies_from mib block (filter (usable_by status disks) pps) ≡ flat_map (copy_to mib block status disks from) (take (length pps - (k + 1)) (drop (k + 1) pps))
  rest_is pps k from found from_is =
      ap (λ (l : List Pp). copies_from mib block l) found.is
      ∙ ap (λ (x : Place). map (one_to mib block x) (filter (usable_by status disks) (drop (k + 1) pps))) (sym from_is)
      ∙ sym (each_to from (drop (k + 1) pps))
      ∙ ap (flat_map (copy_to mib block status disks from)) (sym (take_all (length pps - (k + 1)) (drop (k + 1) pps) (let long = length-drop (k + 1) pps in omega (arith, long))))

-- ---- how many track groups

pub groups_low : (mib lps : ℕ) → mib ≤ 1024 → lps < 2 ^ 32 → 8 * mib * lps < 2 ^ 45
groups_low mib lps small few = let most : 8 * mib * lps ≤ 8192 * lps = mul-le-mul_right lps (omega (arith, small)) in omega (arith, most, few)
