-- How many partitions a volume of a valid descriptor may have.
use Rattle.std.proofs.Common.{◌≡◌, ℕ, ◌≤◌, Bool, true, false, cond, List, [], ◌∷◌, length, map, Some, ap, arith, length-append}
use Rattle.std.specs.Prelude.{◌==◌}
use Rattle.std.specs.List.{find}
use Rattle.std.proofs.lemmas.List.Elements.{All-weaker}
use Rattle.lvm_num.specs.declared.descriptor.LvRow.{LvRow}
use Rattle.lvm_num.specs.declared.descriptor.Descriptor.{Descriptor}
use Rattle.lvm_num.specs.Descriptor.{IsPartitionOf, IsValid, partitions_in, partitions_used}
use Rattle.lvm_num.specs.Marks.{IsBounded}
use Rattle.lvm_num.proofs.MarksLemmas.Spots.{bounded, few_apart}

-- partitions that are all different
pub few_partitions : (d : Descriptor) → IsValid d → length (partitions_used d) ≤ 130048
few_partitions d valid =
    let pps = partitions_used d in
    let in_bounds = All-weaker (IsPartitionOf d) IsBounded (bounded d valid) pps valid.maps.places in
    few_apart pps in_bounds valid.maps.used_once

-- a volume's are among them
its_partitions : (number : ℕ) (rows : List LvRow) (row : LvRow) → find (λ (r : LvRow). r.number == number) rows ≡ Some row
    → length row.map ≤ length (partitions_in rows)
its_partitions number [] row is = absurd cc
its_partitions number (first ∷ rows) row is = by_test (first.number == number) is (its_partitions number rows row)
  where
    by_test : (b : Bool) → cond b (Some first) (find (λ (r : LvRow). r.number == number) rows) ≡ Some row
        → (find (λ (r : LvRow). r.number == number) rows ≡ Some row → length row.map ≤ length (partitions_in rows))
        → length row.map ≤ length (partitions_in (first ∷ rows))
    by_test true here rest =
        let same : first ≡ row = cc in
        omega (arith, ap (λ (r : LvRow). length r.map) same, length-append first.map (partitions_in rows))
    by_test false later rest = omega (arith, rest later, length-append first.map (partitions_in rows))

pub few_of_volume : (d : Descriptor) → IsValid d → (number : ℕ) (row : LvRow) → find (λ (r : LvRow). r.number == number) d.lvs ≡ Some row → length row.map ≤ 130048
few_of_volume d valid number row is = omega (arith, its_partitions number d.lvs row is, few_partitions d valid)
