-- The descriptor without a volume.
use Rattle.std.proofs.Common.{◌≡◌, ◌≢◌, inl, inr, ℕ, ◌<◌, ◌≤◌, Bool, true, false, cond, List, [], ◌∷◌, length, get_or, Option, Some, None, refl, sym, ap, subst, ◌∙◌, eq-eqb, arith}
use Rattle.std.specs.Prelude.{◌==◌, not, find, filter, All, AllPairs, if◌then◌else◌}
use Rattle.std.proofs.lemmas.List.Kept.{AllPairs-filter}
use Rattle.std.proofs.lemmas.Bool.{eqb-true}
use Rattle.std.proofs.lemmas.List.{get_or_default}
use Rattle.std.proofs.lemmas.List.Elements.{All-filter, All-append}
use Rattle.lvm_num.specs.declared.place.Pp.{Pp}
use Rattle.lvm_num.specs.declared.descriptor.LvRow.{LvRow}
use Rattle.lvm_num.specs.declared.descriptor.Descriptor.{Descriptor}
use Rattle.lvm_num.specs.Descriptor.{IsVolume, IsPartitionOf, IsLaidOut, IsValid, partitions_in, volume_of}
use Rattle.lvm_num.proofs.Pairs.{All-left, All-right, AllPairs-left, AllPairs-right, AllPairs-across, AllPairs-append}
use Rattle.lvm_core.specs.passed.Kept.{IsOneOf}
use Rattle.lvm_core.specs.passed.Steps.{DiffersInVolume}
use Rattle.lvm_map.proofs.FirstFitLemmas.Validity.{with_volumes}
use Rattle.lvm_volume_plan.specs.NewVolume.{without_volume}
use Rattle.lvm_volume_plan.proofs.Sublists.{one_filter}

abbrev has_number : ℕ → LvRow → Bool
has_number m row = row.number == m

-- ---- fewer volumes

module _ (p : LvRow → Bool) where
  fewer : (rows : List LvRow) → length (filter p rows) ≤ length rows
  fewer [] = omega arith
  fewer (r ∷ rows) = by_test (p r) (fewer rows)
    where
      by_test : (t : Bool) → length (filter p rows) ≤ length rows → length (cond t (r ∷ filter p rows) (filter p rows)) ≤ length (r ∷ rows)
      by_test true le = omega (arith, le)
      by_test false le = omega (arith, le)

  all_parts : (P : Pp → Type 0) (rows : List LvRow) → All P (partitions_in rows) → All P (partitions_in (filter p rows))
  all_parts P [] all = all
  all_parts P (r ∷ rows) all = by_test (p r) (all_parts P rows (All-right P r.map (partitions_in rows) all))
    where
      by_test : (t : Bool) → All P (partitions_in (filter p rows)) → All P (partitions_in (cond t (r ∷ filter p rows) (filter p rows)))
      by_test true rest = All-append P r.map (partitions_in (filter p rows)) (All-left P r.map (partitions_in rows) all) rest
      by_test false rest = rest

  pairs_parts : (R : Pp → Pp → Type 0) (rows : List LvRow) → AllPairs R (partitions_in rows) → AllPairs R (partitions_in (filter p rows))
  pairs_parts R [] pairs = pairs
  pairs_parts R (r ∷ rows) pairs = by_test (p r) (pairs_parts R rows (AllPairs-right R r.map (partitions_in rows) pairs))
    where
      -- each of the others, against all of the first volume
      across : All (λ (y : Pp). All (λ (x : Pp). R x y) r.map) (partitions_in rows)
      across j d lt i e i-lt = subst (R (get_or r.map i e)) (get_or_default (partitions_in rows) j e d lt) (AllPairs-across R r.map (partitions_in rows) pairs i j e i-lt lt)

      by_test : (t : Bool) → AllPairs R (partitions_in (filter p rows)) → AllPairs R (partitions_in (cond t (r ∷ filter p rows) (filter p rows)))
      by_test true rest = AllPairs-append R r.map (partitions_in (filter p rows)) (AllPairs-left R r.map (partitions_in rows) pairs) rest
          (λ i j e i-lt j-lt. all_parts (λ (y : Pp). All (λ (x : Pp). R x y) r.map) rows across j e j-lt i e i-lt)
      by_test false rest = rest

-- ---- it is valid

pub valid_without : (d : Descriptor) (lv : ℕ) → IsValid d → IsValid (without_volume d lv)
valid_without d lv valid = with_volumes d (filter p d.lvs) valid
    (record {
      each = All-filter p (IsVolume d.big) d.lvs valid.volumes.each;
      numbers_rise = AllPairs-filter (λ (a b : LvRow). a.number < b.number) p d.lvs valid.volumes.numbers_rise;
      names_differ = AllPairs-filter (λ (a b : LvRow). a.name ≢ b.name) p d.lvs valid.volumes.names_differ;
    })
    (omega (arith, valid.head.volumes, fewer p d.lvs))
    (record {
      places = all_parts p (IsPartitionOf d) d.lvs valid.maps.places;
      laid_out = All-filter p IsLaidOut d.lvs valid.maps.laid_out;
      used_once = pairs_parts p (λ (a b : Pp). a ≢ b) d.lvs valid.maps.used_once;
    })
  where
    p : LvRow → Bool
    p row = not (row.number == lv)

-- ---- it differs by the volume

find_others : (rows : List LvRow) (lv n : ℕ) → (n ≡ lv → ⊥) → find (has_number n) (filter (λ (row : LvRow). not (row.number == lv)) rows) ≡ find (has_number n) rows
find_others [] lv n other = refl
find_others (r ∷ rows) lv n other = by_test (r.number == lv) refl (find_others rows lv n other)
  where
    kept : List LvRow
    kept = filter (λ (row : LvRow). not (row.number == lv)) rows

    differs : (t : Bool) → (r.number == n) ≡ t → r.number ≡ lv → t ≡ false
    differs true is its = absurd (other (sym (eqb-true r.number n is) ∙ its))
    differs false is its = refl

    by_test : (t : Bool) → (r.number == lv) ≡ t → find (has_number n) (filter (λ (row : LvRow). not (row.number == lv)) rows) ≡ find (has_number n) rows
        → find (has_number n) (cond (not t) (r ∷ filter (λ (row : LvRow). not (row.number == lv)) rows) (filter (λ (row : LvRow). not (row.number == lv)) rows)) ≡ find (has_number n) (r ∷ rows)
    by_test true is rest = rest ∙ sym (ap (λ (t : Bool). if t then Some r else find (has_number n) rows) (differs (r.number == n) refl (eqb-true r.number lv is)))
    by_test false is rest = ap (λ (o : Option LvRow). if r.number == n then Some r else o) rest

find_none : (rows : List LvRow) (lv : ℕ) → find (has_number lv) (filter (λ (row : LvRow). not (row.number == lv)) rows) ≡ None
find_none [] lv = refl
find_none (r ∷ rows) lv = by_test (r.number == lv) refl (find_none rows lv)
  where
    by_test : (t : Bool) → (r.number == lv) ≡ t → find (has_number lv) (filter (λ (row : LvRow). not (row.number == lv)) rows) ≡ None
        → find (has_number lv) (cond (not t) (r ∷ filter (λ (row : LvRow). not (row.number == lv)) rows) (filter (λ (row : LvRow). not (row.number == lv)) rows)) ≡ None
    by_test true is rest = rest
    by_test false is rest = ap (λ (t : Bool). if t then Some r else find (has_number lv) (filter (λ (row : LvRow). not (row.number == lv)) rows)) is ∙ rest

pub unnamed_without : (d : Descriptor) (lv : ℕ) → volume_of (without_volume d lv) lv ≡ None
unnamed_without d lv = find_none d.lvs lv

pub differs_without : (d : Descriptor) (lv : ℕ) → DiffersInVolume lv d (without_volume d lv)
differs_without d lv = record {
  alone = refl;
  rows = λ r one other. one_filter (λ (row : LvRow). not (row.number == lv)) d.lvs r one;
  volumes = λ n other. find_others d.lvs lv n other;
}

-- a volume of the number is none of its volumes
pub none_without : (d : Descriptor) (lv : ℕ) (row : LvRow) → IsOneOf (without_volume d lv).lvs row → row.number ≡ lv → ⊥
none_without d lv row one its = by_rows d.lvs one
  where
    by_rows : (rows : List LvRow) → IsOneOf (filter (λ (r : LvRow). not (r.number == lv)) rows) row → ⊥
    by_rows [] one = one
    by_rows (r ∷ rows) one = by_test (r.number == lv) refl (by_rows rows) one
      where
        by_test : (t : Bool) → (r.number == lv) ≡ t → (IsOneOf (filter (λ (x : LvRow). not (x.number == lv)) rows) row → ⊥)
            → IsOneOf (cond (not t) (r ∷ filter (λ (x : LvRow). not (x.number == lv)) rows) (filter (λ (x : LvRow). not (x.number == lv)) rows)) row → ⊥
        by_test true is rest one = rest one
        by_test false is rest (inl here) = let same : (r.number == lv) ≡ true = eq-eqb r.number lv (ap (λ (x : LvRow). x.number) (sym here) ∙ its) in absurd cc
        by_test false is rest (inr there) = rest there
