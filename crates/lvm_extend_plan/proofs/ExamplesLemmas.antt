-- Disks may join the groups that are worked by hand.
use Rattle.std.proofs.Common.{◌≢◌, ℕ, Bool, true, [], ◌∷◌, refl, arith}
use Rattle.std.specs.Prelude.{AllPairs, IsTrue}
use Rattle.std.proofs.lemmas.Bool.{false≢true}
use Rattle.std.proofs.lemmas.List.Elements.{All-nil, All-cons}
use Rattle.std.proofs.lemmas.List.Kept.{AllPairs-cons}
use Rattle.lvm_num.specs.Descriptor.{IsValid}
use Rattle.lvm_num.specs.Name.{is_name}
use Rattle.lvm_change_votes.specs.Examples.{of_three}
use Rattle.lvm_group.proofs.NewGroupLemmas.Groups.{are_members, valid_group}
use Rattle.lvm_extend_plan.specs.Examples.{sizes, GroupsMayGrow}

abbrev Differ : ℕ → ℕ → Type 0
Differ a b = a ≢ b

-- the first three disks are three
three_differ : AllPairs Differ (0 ∷ 1 ∷ 2 ∷ [])
three_differ = AllPairs-cons Differ 0 (1 ∷ 2 ∷ []) (All-cons (Differ 0) 1 (2 ∷ []) (λ e. omega (arith, e)) (All-cons (Differ 0) 2 [] (λ e. omega (arith, e)) (All-nil (Differ 0))))
    (AllPairs-cons Differ 1 (2 ∷ []) (All-cons (Differ 1) 2 [] (λ e. omega (arith, e)) (All-nil (Differ 1))) (λ i j d less within. absurd (omega (arith, less, within))))

its_name : IsTrue (is_name (100 ∷ []))
unfolding is_name
its_name = refl

checked : IsValid (of_three true)
checked = valid_group sizes (100 ∷ []) 1 (0 ∷ 1 ∷ 2 ∷ []) 50 (λ e. omega (arith, e)) (omega arith) its_name refl (omega arith) (omega arith) (are_members sizes 1 (0 ∷ 1 ∷ 2 ∷ []) (omega arith) refl refl three_differ)

three_valid : (quorum : Bool) → IsValid (of_three quorum)
three_valid quorum = record {
  head = record {
    some_id = checked.head.some_id;
    id = checked.head.id;
    name = checked.head.name;
    size = checked.head.size;
    even = λ is. absurd (false≢true is);
    a_member = checked.head.a_member;
    members = checked.head.members;
    volumes = checked.head.volumes;
  };
  members = checked.members;
  volumes = checked.volumes;
  maps = record { places = checked.maps.places; laid_out = checked.maps.laid_out; used_once = checked.maps.used_once };
}

pub groups_may_grow : GroupsMayGrow
groups_may_grow quorum = record {
  valid = three_valid quorum;
  fourth = record { there = refl; strangers = refl; few = omega arith; fit = refl };
  may = record { member = record { disk = omega arith; a_partition = omega arith; partitions = omega arith }; apart = refl; few = omega arith };
  two = record { there = refl; strangers = refl; few = omega arith; fit = refl };
  even = refl;
  one = record { there = refl; strangers = refl; few = omega arith; fit = refl };
}
