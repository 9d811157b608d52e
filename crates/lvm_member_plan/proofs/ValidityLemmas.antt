-- A group without some of its members is valid, and so it is even or not.
use Rattle.std.proofs.Common.{◌≡◌, ◌≢◌, ℕ, ◌<◌, ◌≤◌, Bool, true, false, ◌&&◌, ◌||◌, not, List, [], ◌∷◌, length, get_or, Option, Some, None, refl, sym, ◌∙◌, ap, subst, arith}
use Rattle.std.specs.Prelude.{◌==◌, IsTrue, IsFalse, if◌then◌else◌, find, filter, All, AllPairs}
use Rattle.std.specs.List.{list_any}
use Rattle.std.proofs.lemmas.Bool.{eqb-true, false≢true}
use Rattle.std.proofs.lemmas.List.Elements.{All-filter}
use Rattle.std.proofs.lemmas.List.Kept.{AllPairs-filter}
use Rattle.lvm_num.specs.declared.place.Pp.{Pp}
use Rattle.lvm_num.specs.declared.descriptor.PvRow.{PvRow}
use Rattle.lvm_num.specs.declared.descriptor.Descriptor.{Descriptor}
use Rattle.lvm_num.specs.Descriptor.{IsValid, IsMember, IsPartitionOf, member_of, partitions_used}
use Rattle.lvm_num.specs.Disks.{Disks}
use Rattle.lvm_num.proofs.Lists.{few_filter}
use Rattle.lvm_core.specs.Committing.{is_in}
use Rattle.lvm_change_laws.specs.Rule.{staying}
use Rattle.lvm_member_plan.specs.Descriptors.{without_members, with_even}

-- the row of a disk that stays is found as before
pub staying_found : (leaves : Disks) (d : ℕ) (rows : List PvRow) (row : PvRow) → leaves d ≡ false → find (λ (r : PvRow). r.disk == d) rows ≡ Some row → find (λ (r : PvRow). r.disk == d) (staying leaves rows) ≡ Some row
staying_found leaves d [] row off is = absurd cc
staying_found leaves d (x ∷ xs) row off is = by (leaves x.disk) (x.disk == d) refl refl (staying_found leaves d xs row off) is
  where
    by : (goes same : Bool) → leaves x.disk ≡ goes → (x.disk == d) ≡ same → (find (λ (r : PvRow). r.disk == d) xs ≡ Some row → find (λ (r : PvRow). r.disk == d) (staying leaves xs) ≡ Some row)
        → (if same then Some x else find (λ (r : PvRow). r.disk == d) xs) ≡ Some row → find (λ (r : PvRow). r.disk == d) (if not goes then x ∷ staying leaves xs else staying leaves xs) ≡ Some row
    by true true goes same rest found = absurd (false≢true (sym off ∙ ap leaves (sym (eqb-true x.disk d same)) ∙ goes))
    by true false goes same rest found = rest found
    by false true goes same rest found = ap (λ (b : Bool). if b then Some x else find (λ (r : PvRow). r.disk == d) (staying leaves xs)) same ∙ found
    by false false goes same rest found = ap (λ (b : Bool). if b then Some x else find (λ (r : PvRow). r.disk == d) (staying leaves xs)) same ∙ rest found

pub without_valid :
    (leaving : List ℕ) (even : Bool) (d : Descriptor) → IsValid d → 1 ≤ length (staying (is_in leaving) d.pvs) → (even ≡ true → length (staying (is_in leaving) d.pvs) ≡ 2)
    → ((k : ℕ) (e : Pp) → k < length (partitions_used d) → IsFalse (is_in leaving (get_or (partitions_used d) k e).disk)) → IsValid (without_members leaving even d)
without_valid leaving even d valid some two unused = record {
  head = record {
    some_id = valid.head.some_id;
    id = valid.head.id;
    name = valid.head.name;
    size = valid.head.size;
    even = two;
    a_member = some;
    members = (let few = few_filter (λ (row : PvRow). not (is_in leaving row.disk)) d.pvs in let most = valid.head.members in omega (arith, few, most));
    volumes = valid.head.volumes;
  };
  members = record {
    each = All-filter (λ (row : PvRow). not (is_in leaving row.disk)) IsMember d.pvs valid.members.each;
    disks_differ = AllPairs-filter (λ (a b : PvRow). a.disk ≢ b.disk) (λ (row : PvRow). not (is_in leaving row.disk)) d.pvs valid.members.disks_differ;
  };
  volumes = valid.volumes;
  maps = record {
    places = λ k e few. still (get_or (partitions_used d) k e) (unused k e few) (valid.maps.places k e few);
    laid_out = valid.maps.laid_out;
    used_once = valid.maps.used_once;
  };
}
  where
    still : (pp : Pp) → IsFalse (is_in leaving pp.disk) → IsPartitionOf d pp → IsPartitionOf (without_members leaving even d) pp
    still pp off (row, found, below) = (row, staying_found (is_in leaving) pp.disk d.pvs row off found, below)

pub even_valid : (even : Bool) (d : Descriptor) → IsValid d → (even ≡ true → length d.pvs ≡ 2) → IsValid (with_even even d)
even_valid even d valid two = record {
  head = record {
    some_id = valid.head.some_id;
    id = valid.head.id;
    name = valid.head.name;
    size = valid.head.size;
    even = two;
    a_member = valid.head.a_member;
    members = valid.head.members;
    volumes = valid.head.volumes;
  };
  members = valid.members;
  volumes = valid.volumes;
  maps = record { places = valid.maps.places; laid_out = valid.maps.laid_out; used_once = valid.maps.used_once };
}
