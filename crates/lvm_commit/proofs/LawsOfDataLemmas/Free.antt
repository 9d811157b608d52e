-- A partition that no volume has: data of copies stands elsewhere.
use Rattle.std.proofs.Common.{◌≡◌, inl, inr, ℕ, zero, suc, ◌+◌, ◌*◌, ◌%◌, ◌<◌, ◌≤◌, List, [], ◌∷◌, subst, drop, arith}
use Rattle.std.specs.Prelude.{Contains}
use Rattle.std.proofs.lemmas.Bool.{cases_lt}
use Rattle.std.proofs.lemmas.List.Elements.{Contains-append_left, Contains-append_right}
use Rattle.std.proofs.Math.Nat.{mul-le-mul_right, mod-lt}
use Rattle.lvm_num.specs.declared.place.Pp.{Pp}
use Rattle.lvm_num.specs.declared.descriptor.LvRow.{LvRow}
use Rattle.lvm_num.specs.declared.descriptor.Descriptor.{Descriptor}
use Rattle.lvm_num.specs.Descriptor.{copies_of, partitions_in, partitions_used}
use Rattle.lvm_num.specs.Geometry.{partition_blocks, sector_of}
use Rattle.lvm_num.proofs.AmongLemmas.{one_of_take, one_of_drop}
use Rattle.lvm_kept.specs.Group.{IsOneOf}
use Rattle.lvm_commit.specs.LawsOfData.{IsFree, IsSectorOf}
use Rattle.lvm_commit.proofs.AmongLemmas.{contains}

-- ---- lists

of_volume : (rows : List LvRow) (row : LvRow) (p : Pp) → IsOneOf rows row → IsOneOf row.map p → Contains (partitions_in rows) p
of_volume [] row p volume one = absurd volume
of_volume (r ∷ rows) row p (inl here) one = Contains-append_left r.map (partitions_in rows) p (contains r.map p (subst (λ (x : LvRow). IsOneOf x.map p) here one))
of_volume (r ∷ rows) row p (inr there) one = Contains-append_right r.map (partitions_in rows) p (of_volume rows row p there one)

-- ---- sectors

-- a sector of one partition and of another one
same_partition : (k p q r : ℕ) → r < k → q * k ≤ p * k + r → p * k + r < q * k + k → p ≡ q
same_partition k p q r small low high = elim (cases_lt p q) [
  | inl less ↦ let le : suc p * k ≤ q * k = mul-le-mul_right k less in absurd (omega (arith, le, small, low))
  | inr more ↦ elim (cases_lt q p) [
    | inl greater ↦ let le : suc q * k ≤ p * k = mul-le-mul_right k greater in absurd (omega (arith, le, high))
    | inr equal ↦ omega (arith, more, equal)
  ]
]

pub partition_is : (mib : ℕ) (p pp : Pp) (b : ℕ) → IsSectorOf mib pp p.disk (sector_of mib p.pp b) → p ≡ pp
partition_is mib p pp b is =
    let low = is.low in
    let high = is.high in
    let positive : zero < partition_blocks mib = omega (arith, low, high) in
    let small : b % partition_blocks mib < partition_blocks mib = mod-lt b positive in
    let disk : p.disk ≡ pp.disk = is.disk in
    let number : p.pp ≡ pp.pp = same_partition (partition_blocks mib) p.pp pp.pp (b % partition_blocks mib) small (omega (arith, low)) (omega (arith, high)) in
    λ t. record { disk = disk t; pp = number t }

-- no copy stands in a free one
pub none_stands : (group : Descriptor) (pp : Pp) (row : LvRow) (lp b : ℕ) (p : Pp) → IsFree group pp → IsOneOf group.lvs row → IsOneOf (copies_of row lp) p → IsSectorOf group.mib pp p.disk (sector_of group.mib p.pp b) → ⊥
none_stands group pp row lp b p free volume one is =
    free (subst (λ (x : Pp). Contains (partitions_used group) x) (partition_is group.mib p pp b is)
    (of_volume group.lvs row p volume (one_of_drop (lp * row.copies) row.map p (one_of_take row.copies (drop (lp * row.copies) row.map) p one))))
