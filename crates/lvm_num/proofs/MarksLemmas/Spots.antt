-- How many partitions a shelf has at most.
use Rattle.std.proofs.Common.{◌≡◌, ◌≢◌, ℕ, suc, ◌<◌, ◌≤◌, true, false, eqb, List, [], ◌∷◌, length, map, get_or, subst, arith}
use Rattle.std.specs.Prelude.{◌==◌, All, AllPairs}
use Rattle.std.specs.List.{list_any, IsDistinct}
use Rattle.std.proofs.lemmas.Bool.{eqb-true, ne_eqb}
use Rattle.std.proofs.lemmas.List.{length-map}
use Rattle.std.proofs.lemmas.List.Elements.{All-map, All-head, All-tail, recursion_from_All}
use Rattle.std.proofs.lemmas.List.Folds.{Any-from_list_any}
use Rattle.std.proofs.lemmas.Map.Steps.{length-le_from_distinct_below}
use Rattle.lvm_num.specs.declared.place.Pp.{Pp}
use Rattle.lvm_num.specs.declared.descriptor.PvRow.{PvRow}
use Rattle.lvm_num.specs.declared.descriptor.Descriptor.{Descriptor}
use Rattle.lvm_num.specs.Descriptor.{IsMember, IsPartitionOf, IsValid}
use Rattle.lvm_num.specs.Marks.{IsBounded, spot}
use Rattle.lvm_num.proofs.MarksLemmas.Maps.{find-Some}
use Rattle.lvm_num.proofs.Pairs.{AllPairs-right}

pub bounded : (d : Descriptor) → IsValid d → (pp : Pp) → IsPartitionOf d pp → IsBounded pp
bounded d valid pp of =
    let row = of.0 in
    let found = find-Some (λ (r : PvRow). r.disk == pp.disk) d.pvs row of.1 in
    let member : IsMember row = subst IsMember (found.1.2 row) (valid.members.each found.1.0 row found.1.1) in
    let same : row.disk ≡ pp.disk = eqb-true row.disk pp.disk found.0 in
    record { disk = omega (arith, member.disk, same); number = omega (arith, of.2, member.partitions) }

spot-same : (a b : Pp) → IsBounded a → IsBounded b → spot a ≡ spot b → a ≡ b
spot-same a b a-in b-in same =
    let a-lt : a.pp < 1016 = a-in.number in
    let b-lt : b.pp < 1016 = b-in.number in
    let disk : a.disk ≡ b.disk = omega arith in
    let pp : a.pp ≡ b.pp = omega arith in
    λ t. record { disk = disk t; pp = pp t }

distinct : (pps : List Pp) → All IsBounded pps → AllPairs (λ (a b : Pp). a ≢ b) pps → IsDistinct eqb (map spot pps)
unfolding IsDistinct
distinct [] in_bounds apart = tt
distinct (pp ∷ pps) in_bounds apart = (
  recursion_from_All (λ y. eqb (spot pp) y ≡ false) (map spot pps)
      (All-map (λ y. eqb (spot pp) y ≡ false) spot pps
      (λ k d lt. ne_eqb (spot pp) (spot (get_or pps k d))
      (λ same. apart 0 (suc k) d (omega arith) (omega (arith, lt))
      (spot-same pp (get_or pps k d) (All-head IsBounded pp pps in_bounds) (All-tail IsBounded pp pps in_bounds k d lt) same)))),
  distinct pps (All-tail IsBounded pp pps in_bounds) (AllPairs-right (λ (a b : Pp). a ≢ b) (pp ∷ []) pps apart),
)

below : (pps : List Pp) → All IsBounded pps → (q : ℕ) → list_any (eqb q) (map spot pps) ≡ true → q < 130048
below pps in_bounds q some =
    let found = Any-from_list_any (eqb q) (map spot pps) some in
    let small : All (λ n. n < 130048) (map spot pps) =
    All-map (λ n. n < 130048) spot pps (λ k d lt. let one = in_bounds k d lt in omega (arith, one.disk, one.number)) in
    let here = small found.0 found.1 found.2 in
    omega (arith, here, found.3, eqb-true q found.1 found.4)

-- partitions that are all different are few
pub few_apart : (pps : List Pp) → All IsBounded pps → AllPairs (λ (a b : Pp). a ≢ b) pps → length pps ≤ 130048
few_apart pps in_bounds apart = omega (arith, length-le_from_distinct_below (map spot pps) 130048 (distinct pps in_bounds apart) (below pps in_bounds), length-map pps spot)
