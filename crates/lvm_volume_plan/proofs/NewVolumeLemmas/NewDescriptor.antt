-- The descriptor with a new volume.
use Rattle.std.proofs.Common.{◌≡◌, ◌≢◌, ⊎_elim, ℕ, ◌-◌, ◌<◌, ◌≤◌, ◌^◌, Bool, true, false, List, ◌∷◌, length, take, drop, Option, Some, None, refl, sym, ap, ◌∙◌, eq-eqb, arith}
use Rattle.std.specs.Prelude.{◌==◌, find, insert, All, IsTrue, if◌then◌else◌}
use Rattle.std.specs.Option.{option_or}
use Rattle.std.proofs.lemmas.Bool.{eqb-true}
use Rattle.std.proofs.lemmas.List.{take-append-drop}
use Rattle.std.proofs.lemmas.List.Folds.{find-append}
use Rattle.lvm_num.specs.declared.place.Pp.{Pp}
use Rattle.lvm_num.specs.declared.descriptor.LvRow.{LvRow}
use Rattle.lvm_num.specs.declared.descriptor.Descriptor.{Descriptor}
use Rattle.lvm_num.specs.Name.{is_name}
use Rattle.lvm_num.specs.Descriptor.{IsVolume, AreVolumes, IsValid, most_volumes, volume_of}
use Rattle.lvm_num.specs.Disks.{Disks}
use Rattle.lvm_map.specs.FirstFit.{IsAllocated, new_volume}
use Rattle.lvm_map.proofs.FirstFitLemmas.Validity.{new_is_valid}
use Rattle.lvm_core.specs.passed.Steps.{DiffersInVolume}
use Rattle.lvm_volume_plan.specs.declared.new_volume.NewVolume.{NewVolume}
use Rattle.lvm_volume_plan.specs.Faults.{MayHaveCopies}
use Rattle.lvm_volume_plan.specs.NewVolume.{IsLowestFree, IsInOrder, row_for, with_volume}
use Rattle.lvm_volume_plan.proofs.Sublists.{all_insert, pairs_insert, one_insert}

abbrev has_number : ℕ → LvRow → Bool
has_number m row = row.number == m

module _ (d : Descriptor) (v : NewVolume) (number : ℕ) (map : List Pp) (valid : IsValid d) (lowest : IsLowestFree d number) (order : IsInOrder d number) where
  abbrev row : LvRow
  row = row_for v number map

  place : number - 1 ≤ length d.lvs
  place = omega (arith, order.within)

  -- ---- it is valid

  module _ (named : IsTrue (is_name v.name)) (new_name : All (λ (r : LvRow). r.name ≢ v.name) d.lvs) (copies : MayHaveCopies v.copies) (some : 1 ≤ v.lps) (few : v.lps < 2 ^ 32) (fewer : length d.lvs < most_volumes d.big) where
    its : IsVolume d.big row
    its = record {
      a_number = lowest.least;
      number = omega (arith, order.within, fewer);
      a_copy = copies.0;
      copies = copies.1;
      a_partition = some;
      partitions = few;
      name = named;
    }

    pub volumes_with : AreVolumes d.big (insert d.lvs (number - 1) row)
    volumes_with = record {
      each = all_insert d.lvs (number - 1) row place (IsVolume d.big) valid.volumes.each its;
      numbers_rise = pairs_insert d.lvs (number - 1) row place (λ (a b : LvRow). a.number < b.number) valid.volumes.numbers_rise
          (λ i e lt. order.before i e (omega (arith, lt))) (λ i e past lt. order.behind i e (omega (arith, past)) lt);
      names_differ = pairs_insert d.lvs (number - 1) row place (λ (a b : LvRow). a.name ≢ b.name) valid.volumes.names_differ
          (λ i e lt. new_name i e (omega (arith, lt, order.within))) (λ i e past lt. λ same. new_name i e lt (sym same));
    }

    pub valid_with : (usable : Disks) → IsAllocated d usable (new_volume v.lps v.copies) map → IsValid (with_volume d row)
    valid_with usable all = new_is_valid d usable row (number - 1) valid place all volumes_with fewer

  -- ---- it differs by the volume

  abbrev front : List LvRow
  front = take (number - 1) d.lvs

  abbrev back : List LvRow
  back = drop (number - 1) d.lvs

  pub named_with : volume_of (with_volume d row) number ≡ Some row
  named_with =
      let none : find (has_number number) front ≡ None = none_in front back (sym (find-append (has_number number) front back) ∙ ap (find (has_number number)) (take-append-drop (number - 1) d.lvs) ∙ lowest.free) in
      let here : find (has_number number) (row ∷ back) ≡ Some row = ap (λ (t : Bool). if t then Some row else find (has_number number) back) (eq-eqb number number refl) in
      find-append (has_number number) front (row ∷ back) ∙ (λ t. option_or (none t) (here t))
    where
      none_in : (xs ys : List LvRow) → option_or (find (has_number number) xs) (find (has_number number) ys) ≡ None → find (has_number number) xs ≡ None
      none_in xs ys is = by_case (find (has_number number) xs) is
        where
          by_case : (o : Option LvRow) → option_or o (find (has_number number) ys) ≡ None → o ≡ None
          by_case None is = refl
          by_case (Some x) is = absurd cc

  pub differs_with : DiffersInVolume number d (with_volume d row)
  differs_with = record {
    alone = refl;
    rows = λ r one other. ⊎_elim (λ (same : r ≡ row). absurd (other (ap (λ (x : LvRow). x.number) same))) (λ rest. rest) (one_insert d.lvs (number - 1) row r one);
    volumes = λ n other.
        let skips : find (has_number n) (row ∷ back) ≡ find (has_number n) back = skip n (number == n) refl other in
        find-append (has_number n) front (row ∷ back) ∙ ap (option_or (find (has_number n) front)) skips ∙ sym (find-append (has_number n) front back)
        ∙ ap (find (has_number n)) (take-append-drop (number - 1) d.lvs);
  }
    where
      skip : (n : ℕ) (t : Bool) → (number == n) ≡ t → (n ≡ number → ⊥) → (if t then Some row else find (has_number n) back) ≡ find (has_number n) back
      skip n true is other = absurd (other (sym (eqb-true number n is)))
      skip n false is other = refl
