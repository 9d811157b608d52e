-- A group with a member more is valid, and a neighbour of the group without it.
use Rattle.std.proofs.Common.{◌≡◌, ◌≢◌, inr, ℕ, zero, suc, ◌<◌, ◌+◌, Bool, true, false, List, [], ◌∷◌, ◌++◌, length, get_or, Some, None, refl, sym, ◌∙◌, ap, arith}
use Rattle.std.specs.Prelude.{◌==◌, ◌&&◌, not, if◌then◌else◌, find}
use Rattle.std.specs.Option.{option_or}
use Rattle.std.specs.List.{list_any}
use Rattle.std.proofs.lemmas.Bool.{eq-eqb, eqb-true, false≢true}
use Rattle.std.proofs.lemmas.List.{append-nil, length_push, length-map, map-append}
use Rattle.std.proofs.lemmas.List.Elements.{All-push}
use Rattle.std.proofs.lemmas.List.Folds.{find-append}
use Rattle.std.proofs.lemmas.List.Quantifiers.{all_pairs_push}
use Rattle.lvm_num.specs.declared.place.Pp.{Pp}
use Rattle.lvm_num.specs.declared.descriptor.PvRow.{PvRow}
use Rattle.lvm_num.specs.declared.descriptor.Descriptor.{Descriptor}
use Rattle.lvm_num.specs.Descriptor.{IsValid, IsMember, IsPartitionOf, partitions_used}
use Rattle.lvm_num.proofs.Booleans.{clash, first_fails, second_fails}
use Rattle.lvm_change_votes.specs.Meeting.{HasMembers, IsOneMore, disks_of}
use Rattle.lvm_change_votes.proofs.MeetingLemmas.{one_more_meets}
use Rattle.lvm_change_laws.proofs.StayingLemmas.{all_stay}
use Rattle.lvm_member_plan.specs.Descriptors.{with_even}
use Rattle.lvm_member_plan.specs.Steps.{IsStep}
use Rattle.lvm_member_plan.proofs.ValidityLemmas.{even_valid}
use Rattle.lvm_member_plan.proofs.NeighbourLemmas.{even_near}
use Rattle.lvm_extend_plan.specs.Descriptors.{with_member}
use Rattle.lvm_extend_plan.specs.Steps.{IsStepIn, MayJoin, AreStepsIn, before_joining}

-- no member is on the disk
apart_at : (disk : ℕ) (rows : List PvRow) → list_any (λ (row : PvRow). row.disk == disk) rows ≡ false → (k : ℕ) (d : PvRow) → k < length rows → (get_or rows k d).disk ≢ disk
apart_at disk rows none k d few same = clash ((get_or rows k d).disk == disk) (eq-eqb (get_or rows k d).disk disk same) (none_at rows none k d few)
  where
    none_at : (rows : List PvRow) → list_any (λ (row : PvRow). row.disk == disk) rows ≡ false → (k : ℕ) (d : PvRow) → k < length rows → ((get_or rows k d).disk == disk) ≡ false
    none_at [] none k d few = absurd (omega (arith, few))
    none_at (r ∷ rows) none zero d few = first_fails (r.disk == disk) (list_any (λ (row : PvRow). row.disk == disk) rows) none
    none_at (r ∷ rows) none (suc k) d few = none_at rows (second_fails (r.disk == disk) (list_any (λ (row : PvRow). row.disk == disk) rows) none) k d (omega (arith, few))

-- what is found is found with more behind it
found_still : {X : Type 0} (p : X → Bool) (xs ys : List X) (x : X) → find p xs ≡ Some x → find p (xs ++ ys) ≡ Some x
found_still p xs ys x is = find-append p xs ys ∙ ap (λ o. option_or o (find p ys)) is

module _ (d : Descriptor) (row : PvRow) (valid : IsValid d) (may : MayJoin d row) where
  still : (pp : Pp) → IsPartitionOf d pp → IsPartitionOf (with_member row d) pp
  still pp (r, found, below) = (r, found_still (λ (r : PvRow). r.disk == pp.disk) d.pvs (row ∷ []) r found, below)

  count : length (d.pvs ++ row ∷ []) ≡ length d.pvs + 1
  count = length_push d.pvs row

  pub joined_valid : IsValid (with_member row d)
  joined_valid = record {
    head = record {
      some_id = valid.head.some_id;
      id = valid.head.id;
      name = valid.head.name;
      size = valid.head.size;
      even = λ is. absurd (false≢true is);
      a_member = (let c = count in omega (arith, c));
      members = (let c = count in let few = may.few in omega (arith, c, few));
      volumes = valid.head.volumes;
    };
    members = record {
      each = All-push IsMember d.pvs row valid.members.each may.member;
      disks_differ = all_pairs_push (λ (a b : PvRow). a.disk ≢ b.disk) d.pvs row valid.members.disks_differ (apart_at row.disk d.pvs may.apart);
    };
    volumes = valid.volumes;
    maps = record {
      places = λ k e few. still (get_or (partitions_used d) k e) (valid.maps.places k e few);
      laid_out = valid.maps.laid_out;
      used_once = valid.maps.used_once;
    };
  }

  members_of : (g : Descriptor) → IsValid g → HasMembers g
  members_of g its = record { some = its.head.a_member; apart = its.members.disks_differ }

  one_more : (length d.pvs ≡ 2 → d.even ≡ true) → IsOneMore d (with_member row d)
  one_more two = record {
    before = disks_of d;
    disk = row.disk;
    after = [];
    fewer_is = sym (append-nil (disks_of d));
    more_is = map-append (λ (r : PvRow). r.disk) d.pvs (row ∷ []);
    quorum = refl;
    has_fewer = members_of d valid;
    has_more = members_of (with_member row d) joined_valid;
    two = two;
    one = λ only. inr (let all = length-map d.pvs (λ (r : PvRow). r.disk) in omega (arith, all, only));
  }

  pub step_in : (length d.pvs ≡ 2 → d.even ≡ true) → IsStepIn row d (with_member row d)
  step_in two = record { valid = valid; valid_next = joined_valid; is = refl; more = one_more two; near = one_more_meets d (with_member row d) (one_more two) }

-- ---- by how many there are

-- whether the group becomes even first
none_before : (d : Descriptor) → (length d.pvs ≡ 2 → d.even ≡ true) → before_joining d ≡ None
none_before d two = by (length d.pvs == 2) refl
  where
    by : (t : Bool) → (length d.pvs == 2) ≡ t → (if t && not d.even then Some (with_even true d) else None) ≡ None
    by true is = ap (λ (b : Bool). if not b then Some (with_even true d) else None) (two (eqb-true (length d.pvs) 2 is))
    by false is = refl

some_before : (d : Descriptor) → length d.pvs ≡ 2 → d.even ≡ false → before_joining d ≡ Some (with_even true d)
some_before d two uneven = (λ t. if eq-eqb (length d.pvs) 2 two t && not (uneven t) then Some (with_even true d) else None)

pub at_once : (d : Descriptor) (row : PvRow) → IsValid d → MayJoin d row → (length d.pvs ≡ 2 → d.even ≡ true) → AreStepsIn d row (record { before = None; into = with_member row d })
at_once d row valid may two = record { before_is = sym (none_before d two); before = tt; into = step_in d row valid may two; last = refl }

pub from_two : (d : Descriptor) (row : PvRow) → IsValid d → MayJoin d row → length d.pvs ≡ 2 → d.even ≡ false → AreStepsIn d row (record { before = Some (with_even true d); into = with_member row d })
from_two d row valid may two uneven = record {
  before_is = sym (some_before d two uneven);
  before = step;
  into = step_in (with_even true d) row step.valid_next (record { member = may.member; apart = may.apart; few = may.few }) (λ is. refl);
  last = refl;
}
  where
    step : IsStep [] d (with_even true d)
    step = record {
      valid = valid;
      valid_next = even_valid true d valid (λ is. two);
      is = ap (λ (rows : List PvRow). record d { pvs = rows; even = true }) (sym (all_stay d.pvs));
      near = even_near true d valid;
    }
