-- Of disks that may join the first may, and the others may join behind it.
use Rattle.std.proofs.Common.{◌≡◌, ◌≢◌, ℕ, suc, ◌<◌, Bool, true, false, ◌||◌, List, [], ◌∷◌, length, get_or, map, Some, None, ◌∙◌, ap, arith}
use Rattle.std.specs.Prelude.{◌==◌, nat_le, find, if◌then◌else◌}
use Rattle.std.proofs.lemmas.Bool.{ne_eqb}
use Rattle.std.proofs.lemmas.List.{append_assoc, length_push}
use Rattle.std.proofs.lemmas.List.Folds.{list_any-append}
use Rattle.lvm_num.specs.declared.descriptor.PvRow.{PvRow}
use Rattle.lvm_num.specs.Descriptor.{is_member}
use Rattle.lvm_num.specs.Geometry.{partition_count}
use Rattle.lvm_num.proofs.Booleans.{or_false}
use Rattle.lvm_num.proofs.Lists.{pairs_head}
use Rattle.lvm_group.specs.NewGroup.{member_for, sectors_on}
use Rattle.lvm_group.proofs.NewGroupLemmas.Groups.{is_there, has_partition}
use Rattle.lvm_group.proofs.NewGroupLemmas.Searches.{none_found, found_none}
use Rattle.lvm_extend_plan.specs.Descriptors.{with_member}
use Rattle.lvm_extend_plan.specs.Steps.{JoinOneByOne}

-- where none is found none is found behind the first
none_behind : (p : ℕ → Bool) (x : ℕ) (xs : List ℕ) → find p (x ∷ xs) ≡ None → find p xs ≡ None
none_behind p x xs none = by (p x) none
  where
    by : (t : Bool) → (if t then Some x else find p xs) ≡ None → find p xs ≡ None
    by true is = absurd (ends is)
      where
        ends : Some x ≡ None → ⊥
        ends same = cc
    by false is = is

pub join_one_by_one : JoinOneByOne
join_one_by_one sizes d disk disks shelf differ all = record {
  may = record {
    member = record {
      disk = (let lt = is_there sizes (disk ∷ disks) all.there 0 0 (omega arith) in omega (arith, lt, shelf));
      a_partition = has_partition sizes d.mib (disk ∷ disks) all.fit 0 0 (omega arith);
      partitions = omega arith;
    };
    apart = none_found (is_member d) (disk ∷ disks) all.strangers 0 0 (omega arith);
    few = (let few = all.few in omega (arith, few));
  };
  others = record {
    there = none_behind (λ (x : ℕ). nat_le (length sizes) x) disk disks all.there;
    strangers = found_none (is_member (with_member row d)) disks (λ k few. stranger k few);
    few = (let few = all.few in let count = length_push d.pvs row in omega (arith, few, count));
    fit = none_behind (λ (x : ℕ). partition_count (sectors_on sizes x) d.mib == 0) disk disks all.fit;
  };
  last = ap (λ (rows : List PvRow). record d { pvs = rows; even = false }) (append_assoc d.pvs (row ∷ []) (map (member_for sizes d.mib) disks));
}
  where
    row : PvRow
    row = member_for sizes d.mib disk

    -- none of the others is the first, nor a member of before
    stranger : (k : ℕ) → k < length disks → is_member (with_member (member_for sizes d.mib disk) d) (get_or disks k 0) ≡ false
    stranger k few =
        let x : ℕ = get_or disks k 0 in
        list_any-append (λ (r : PvRow). r.disk == x) d.pvs (member_for sizes d.mib disk ∷ [])
        ∙ ap (λ (b : Bool). b || ((disk == x) || false)) (none_found (is_member d) (disk ∷ disks) all.strangers (suc k) 0 (omega (arith, few)))
        ∙ or_false (disk == x)
        ∙ ne_eqb disk x (pairs_head (λ (a b : ℕ). a ≢ b) disk disks differ k 0 few)
