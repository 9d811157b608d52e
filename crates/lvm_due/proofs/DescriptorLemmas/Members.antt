-- The copies of a logical partition of a valid group are at most three partitions of its members.
use Rattle.std.proofs.Common.{◌≡◌, ◌<◌, ◌≤◌, ◌*◌, ◌==◌, ◌++◌, ℕ, zero, suc, Bool, true, false, List, [], ◌∷◌, Option, Some, None, length, drop, get_or, refl, subst, arith}
use Rattle.std.specs.Prelude.{All}
use Rattle.std.specs.Option.{option_map_or}
use Rattle.std.proofs.Math.Seq.{drop-append_seam, take-append_seam}
use Rattle.std.proofs.lemmas.Bool.{eqb-true}
use Rattle.std.proofs.lemmas.List.{length-take}
use Rattle.std.proofs.lemmas.List.Concat.{flat_map-cons}
use Rattle.std.proofs.lemmas.List.Elements.{All-drop, All-nil, All-take}
use Rattle.lvm_num.specs.declared.place.Pp.{Pp}
use Rattle.lvm_num.specs.declared.descriptor.LvRow.{LvRow}
use Rattle.lvm_num.specs.declared.descriptor.PvRow.{PvRow}
use Rattle.lvm_num.specs.declared.descriptor.Descriptor.{Descriptor}
use Rattle.lvm_num.specs.Descriptor.{IsMember, IsPartitionOf, IsValid, IsVolume, copies_of, most_volumes, partitions_in, volume_of}
use Rattle.lvm_num.proofs.MarksLemmas.Maps.{find-Some}
use Rattle.lvm_session.specs.Judging.{copies_in}

in_maps : (P : Pp → Type 0) (rows : List LvRow) (k : ℕ) (d : LvRow) → k < length rows → All P (partitions_in rows) → All P (get_or rows k d).map
in_maps P [] k d within all = absurd (omega (arith, within))
in_maps P (row ∷ rows) zero d within all =
    let parts = subst (All P) (flat_map-cons (λ (r : LvRow). r.map) row rows) all in
    subst (All P) (take-append_seam row.map (partitions_in rows)) (All-take P (length row.map) (row.map ++ partitions_in rows) parts)
in_maps P (row ∷ rows) (suc k) d within all =
    let parts = subst (All P) (flat_map-cons (λ (r : LvRow). r.map) row rows) all in
    in_maps P rows k d (omega (arith, within)) (subst (All P) (drop-append_seam row.map (partitions_in rows)) (All-drop P (length row.map) (row.map ++ partitions_in rows) parts))

module _ (d : Descriptor) (lv : ℕ) (row : LvRow) (valid : IsValid d) (is : volume_of d lv ≡ Some row) where
  found : (k : ℕ) × (k < length d.lvs) × (get_or d.lvs k row ≡ row) × ((row.number == lv) ≡ true)
  found = let it = find-Some (λ (r : LvRow). r.number == lv) d.lvs row is in (it.1.0, it.1.1, it.1.2 row, it.0)

  volume : IsVolume d.big row
  volume = subst (IsVolume d.big) found.2 (valid.volumes.each found.0 row found.1)

  pub copies_are : (lp : ℕ) → All (IsPartitionOf d) (copies_of row lp)
  copies_are lp =
      let all = subst (λ (r : LvRow). All (IsPartitionOf d) r.map) found.2 (in_maps (IsPartitionOf d) d.lvs found.0 row found.1 valid.maps.places) in
      All-take (IsPartitionOf d) row.copies (drop (lp * row.copies) row.map) (All-drop (IsPartitionOf d) (lp * row.copies) row.map all)

  pub few_copies : (lp : ℕ) → length (copies_of row lp) ≤ 3
  few_copies lp =
      let taken = length-take row.copies (drop (lp * row.copies) row.map) in
      let most = volume.copies in
      omega (arith, taken, most)

  pub numbered : (1 ≤ lv) × (lv ≤ 511)
  numbered =
      let least = volume.a_number in
      let most = volume.number in
      let same = eqb-true row.number lv found.3 in
      let all = most_of d.big in
      (omega (arith, least, same), omega (arith, most, same, all))
    where
      most_of : (b : Bool) → most_volumes b ≤ 511
      most_of true = omega arith
      most_of false = omega arith

-- so are the copies of a logical partition that the group has or hasn't
pub copies_in_are : (d : Descriptor) (lv lp : ℕ) → IsValid d → All (IsPartitionOf d) (copies_in d lv lp)
copies_in_are d lv lp valid = by_volume (volume_of d lv) refl
  where
    by_volume : (o : Option LvRow) → volume_of d lv ≡ o → All (IsPartitionOf d) (option_map_or (λ (row : LvRow). copies_of row lp) o [])
    by_volume None is = All-nil (IsPartitionOf d)
    by_volume (Some row) is = copies_are d lv row valid is lp

pub few_in : (d : Descriptor) (lv lp : ℕ) → IsValid d → length (copies_in d lv lp) ≤ 3
few_in d lv lp valid = by_volume (volume_of d lv) refl
  where
    by_volume : (o : Option LvRow) → volume_of d lv ≡ o → length (option_map_or (λ (row : LvRow). copies_of row lp) o []) ≤ 3
    by_volume None is = omega arith
    by_volume (Some row) is = few_copies d lv row valid is lp

-- a member is one of 128 disks, with at most 1,016 partitions
pub record IsPlace (p : Pp) : Type 0 where
  pub disk : p.disk < 128
  pub partition : p.pp < 1016

pub place_of : (d : Descriptor) (p : Pp) → IsValid d → IsPartitionOf d p → IsPlace p
place_of d p valid of =
    let it = find-Some (λ (r : PvRow). r.disk == p.disk) d.pvs of.0 of.1 in
    let same : of.0.disk ≡ p.disk = eqb-true of.0.disk p.disk it.0 in
    let member : IsMember of.0 = subst IsMember (it.1.2 of.0) (valid.members.each it.1.0 of.0 it.1.1) in
    let disk = member.disk in
    let partitions = member.partitions in
    let within = of.2 in
    record { disk = omega (arith, disk, same); partition = omega (arith, partitions, within) }
