-- No two blocks of copies stand at one place, and each stands in the data of a member.
use Rattle.std.proofs.Common.{◌≡◌, inl, inr, ℕ, suc, ◌+◌, ◌-◌, ◌*◌, ◌%◌, ◌<◌, ◌≤◌, List, length, get_or, take, Option, Some, None, refl, sym, ap, subst, ◌∙◌, arith}
use Rattle.std.specs.Prelude.{◌==◌, find, option_map, option_and_then}
use Rattle.std.proofs.lemmas.Bool.{cases_lt}
use Rattle.std.proofs.lemmas.List.{get_or-take, take-take, length-take-le}
use Rattle.std.proofs.lemmas.List.Concat.{get_or-flat_map}
use Rattle.std.proofs.lemmas.List.Folds.{length-flat_map-take}
use Rattle.std.proofs.Math.Nat.{mul-le-mul_left}
use Rattle.lvm_num.specs.declared.place.Pp.{Pp}
use Rattle.lvm_num.specs.declared.place.Place.{Place}
use Rattle.lvm_num.specs.declared.descriptor.LvRow.{LvRow}
use Rattle.lvm_num.specs.declared.descriptor.Descriptor.{Descriptor}
use Rattle.lvm_num.specs.Geometry.{partition_blocks, partition_of}
use Rattle.lvm_num.specs.Descriptor.{IsPartitionOf, IsValid, partitions_in, partitions_used, volume_of}
use Rattle.lvm_num.proofs.Lists.{some_map}
use Rattle.lvm_map.specs.Places.{copy_at, place_on, place_of}
use Rattle.lvm_map.specs.Laws.{AreSame, IsDataOf}
use Rattle.lvm_map.proofs.Parts.{same_parts, whole}
use Rattle.lvm_map.proofs.PlacesLemmas.{mib_positive, IsVolumeAt, volume_at, laid_out, index_below, copy_there, IsCopy, copy_is}

-- ---- what a place comes from

then_parts : {X Y : Type 0} (f : X → Option Y) (o : Option X) (y : Y) → option_and_then f o ≡ Some y → (x : X) × (o ≡ Some x) × (f x ≡ Some y)
then_parts f None y is = absurd cc
then_parts f (Some x) y is = (x, refl, is)

-- a volume, a copy of a logical partition of it, and where it stands among all partitions
record IsFrom (d : Descriptor) (lv copy block : ℕ) (place : Place) : Type 0 where
  row : LvRow
  pp : Pp
  at : IsVolumeAt d lv row
  copy_there : IsCopy row (partition_of d.mib block) copy
  index : partition_of d.mib block * row.copies + (copy - 1) < length row.map
  its : (e : Pp) → get_or row.map (partition_of d.mib block * row.copies + (copy - 1)) e ≡ pp
  is : place_on d.mib pp block ≡ place

from : (d : Descriptor) (lv copy block : ℕ) (place : Place) → IsValid d → place_of d lv copy block ≡ Some place → IsFrom d lv copy block place
from d lv copy block place valid is =
    let volume = then_parts (λ (r : LvRow). option_map (λ pp. place_on d.mib pp block) (copy_at r (partition_of d.mib block) copy)) (volume_of d lv) place is in
    let row = volume.0 in
    let of = some_map (λ (pp : Pp). place_on d.mib pp block) (copy_at row (partition_of d.mib block) copy) place volume.2 in
    let laid = laid_out d lv row valid volume.1 in
    let there = copy_is row (partition_of d.mib block) copy of.0 laid.whole of.1 in
    record {
      row = row;
      pp = of.0;
      at = volume_at d lv row volume.1;
      copy_there = there;
      index = index_below row (partition_of d.mib block) copy laid.whole there.within there.some there.last;
      its = λ e. let some = copy_there row (partition_of d.mib block) copy e laid.whole there.within there.some there.last in cc (sym some ∙ of.1);
      is = of.2;
    }

-- ---- among all partitions

-- the number among all partitions of one of a volume's map
abbrev number : Descriptor → ℕ → ℕ → ℕ
number d volume j = length (partitions_in (take volume d.lvs)) + j

number_below : (d : Descriptor) (volume j : ℕ) (e : LvRow) → volume < length d.lvs → j < length (get_or d.lvs volume e).map → number d volume j < length (partitions_used d)
number_below d volume j e lt j-lt = omega (arith, length-flat_map-take (λ (row : LvRow). row.map) d.lvs volume e lt)

number_at : (d : Descriptor) (volume j : ℕ) (e : LvRow) (p : Pp) → volume < length d.lvs → j < length (get_or d.lvs volume e).map
    → get_or (partitions_used d) (number d volume j) p ≡ get_or (get_or d.lvs volume e).map j p
number_at d volume j e p lt j-lt = get_or-flat_map (λ (row : LvRow). row.map) d.lvs volume j e p lt j-lt

-- volumes before another have lower numbers
earlier : (d : Descriptor) (i j a : ℕ) (e : LvRow) → i < j → j < length d.lvs → a < length (get_or d.lvs i e).map → number d i a < length (partitions_in (take j d.lvs))
earlier d i j a e less lt a-lt =
    let front = take j d.lvs in
    let size : length front ≡ j = length-take-le j d.lvs (omega arith) in
    let le = length-flat_map-take (λ (row : LvRow). row.map) front i e (omega arith) in
    let same : take i front ≡ take i d.lvs = take-take i j d.lvs (omega arith) in
    let row : get_or front i e ≡ get_or d.lvs i e = get_or-take j d.lvs i e less in
    omega (arith, le, ap (λ (rows : List LvRow). length (partitions_in rows)) same, ap (λ (r : LvRow). length r.map) row)

-- ---- the same place

module _ (d : Descriptor) (valid : IsValid d) where
  -- where a copy stands among all partitions
  placed : (lv copy block : ℕ) (place : Place) (f : IsFrom d lv copy block place) → (number d f.at.place (partition_of d.mib block * f.row.copies + (copy - 1)) < length (partitions_used d))
      × ((p : Pp) → get_or (partitions_used d) (number d f.at.place (partition_of d.mib block * f.row.copies + (copy - 1))) p ≡ f.pp)
  placed lv copy block place f =
      let j = partition_of d.mib block * f.row.copies + (copy - 1) in
      let there = f.at.there f.row in
      let size = ap (λ (r : LvRow). length r.map) there in
      let j-lt : j < length (get_or d.lvs f.at.place f.row).map = omega (arith, f.index, size) in (
        number_below d f.at.place j f.row f.at.within j-lt,
        λ p. number_at d f.at.place j f.row p f.at.within j-lt ∙ ap (λ (r : LvRow). get_or r.map j p) there ∙ f.its p,
      )

  pub is_data : (lv copy block : ℕ) (place : Place) → place_of d lv copy block ≡ Some place → IsDataOf d place
  is_data lv copy block place is =
      let f = from d lv copy block place valid is in
      let at = placed lv copy block place f in
      let of : IsPartitionOf d f.pp = subst (IsPartitionOf d) (at.1 f.pp) (valid.maps.places _ f.pp at.0) in
      let disk : f.pp.disk ≡ place.disk = ap (λ (p : Place). p.disk) f.is in
      let sector = ap (λ (p : Place). p.sector) f.is in
      let some = mib_positive d valid in
      let rest : block % partition_blocks d.mib < partition_blocks d.mib = omega arith in
      let below : partition_blocks d.mib * suc f.pp.pp ≤ partition_blocks d.mib * of.0.pps = mul-le-mul_left (partition_blocks d.mib) of.2 in
      record {
        row = of.0;
        member = ap (λ n. find (λ row. row.disk == n) d.pvs) (sym disk) ∙ of.1;
        low = omega arith;
        high = omega (arith, sector, below, rest);
      }

  -- one partition is used once
  one_number : (m n : ℕ) (p : Pp) → m < length (partitions_used d) → n < length (partitions_used d) → get_or (partitions_used d) m p ≡ get_or (partitions_used d) n p → m ≡ n
  one_number m n p m-lt n-lt same = elim (cases_lt m n) [
    | inl less ↦ absurd (valid.maps.used_once m n p less n-lt same)
    | inr more ↦ elim (cases_lt n m) [
      | inl greater ↦ absurd (valid.maps.used_once n m p greater m-lt (sym same))
      | inr equal ↦ omega arith
    ]
  ]

  one_volume : (i j a b : ℕ) (e : LvRow) → i < length d.lvs → j < length d.lvs → a < length (get_or d.lvs i e).map → b < length (get_or d.lvs j e).map
      → number d i a ≡ number d j b → i ≡ j
  one_volume i j a b e i-lt j-lt a-lt b-lt same = elim (cases_lt i j) [
    | inl less ↦ absurd (omega (arith, earlier d i j a e less j-lt a-lt))
    | inr more ↦ elim (cases_lt j i) [
      | inl greater ↦ absurd (omega (arith, earlier d j i b e greater i-lt b-lt))
      | inr equal ↦ omega arith
    ]
  ]

  pub is_same : (lv copy block other_lv other_copy other_block : ℕ) (place : Place) → place_of d lv copy block ≡ Some place → place_of d other_lv other_copy other_block ≡ Some place
      → AreSame lv copy block other_lv other_copy other_block
  is_same lv copy block other_lv other_copy other_block place first second =
      let f = from d lv copy block place valid first in
      let g = from d other_lv other_copy other_block place valid second in
      let f-at = placed lv copy block place f in
      let g-at = placed other_lv other_copy other_block place g in
      let some = mib_positive d valid in
      let size = partition_blocks d.mib in
      let disk : f.pp.disk ≡ g.pp.disk = ap (λ (p : Place). p.disk) (f.is ∙ sym g.is) in
      let sector = ap (λ (p : Place). p.sector) (f.is ∙ sym g.is) in
      let f-rest : block % size < size = omega arith in
      let g-rest : other_block % size < size = omega arith in
      let sectors = same_parts size f.pp.pp g.pp.pp (block % size) (other_block % size) f-rest g-rest (omega (arith, sector)) in
      let pp : f.pp ≡ g.pp = λ t. record { disk = disk t; pp = sectors.0 t } in
      let f-lp = partition_of d.mib block in
      let g-lp = partition_of d.mib other_block in
      let f-index = f-lp * f.row.copies + (copy - 1) in
      let g-index = g-lp * g.row.copies + (other_copy - 1) in
      let numbers : number d f.at.place f-index ≡ number d g.at.place g-index =
      one_number (number d f.at.place f-index) (number d g.at.place g-index) f.pp f-at.0 g-at.0 (f-at.1 f.pp ∙ pp ∙ sym (g-at.1 f.pp)) in
      let f-size = ap (λ (r : LvRow). length r.map) (f.at.there f.row) in
      let g-size = ap (λ (r : LvRow). length r.map) (g.at.there f.row) in
      let volume : f.at.place ≡ g.at.place =
      one_volume f.at.place g.at.place f-index g-index f.row f.at.within g.at.within (omega (arith, f.index, f-size)) (omega (arith, g.index, g-size)) numbers in
      let row : f.row ≡ g.row = sym (f.at.there f.row) ∙ ap (λ n. get_or d.lvs n f.row) volume ∙ g.at.there f.row in
      let front = ap (λ n. length (partitions_in (take n d.lvs))) volume in
      let copies : f.row.copies ≡ g.row.copies = ap (λ (r : LvRow). r.copies) row in
      let lv-is = ap (λ (r : LvRow). r.number) row in
      let indices = same_parts f.row.copies f-lp g-lp (copy - 1) (other_copy - 1) (omega (arith, f.copy_there.some, f.copy_there.last)) (omega (arith, g.copy_there.some, g.copy_there.last))
      (omega (arith, numbers, front, ap (λ n. g-lp * n) copies)) in
      let f-whole = whole size block (omega arith) in
      let g-whole = whole size other_block (omega arith) in
      record {
        same_volume = omega (arith, f.at.its, g.at.its, lv-is);
        same_copy = omega (arith, indices.1, f.copy_there.some, g.copy_there.some);
        same_block = omega (arith, f-whole, g-whole, sectors.1, ap (λ n. n * size) indices.0);
      }
