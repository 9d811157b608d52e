-- What the choice gives, as a varyon speaks of it.
use Rattle.std.proofs.Common.{◌≡◌, inl, inr, ℕ, ◌<◌, ◌≤◌, List, Some, sym, ap, subst, ◌∙◌}
use Rattle.std.specs.Prelude.{IsTrue, slice_get}
use Rattle.lvm_num.specs.declared.descriptor.Descriptor.{Descriptor}
use Rattle.lvm_num.specs.declared.status.Status.{Status}
use Rattle.lvm_num.specs.Descriptor.{IsValid}
use Rattle.lvm_num.specs.Disks.{has}
use Rattle.lvm_num.specs.Record.{Stamped, last_moment}
use Rattle.lvm_num.specs.Status.{IsValidStatus}
use Rattle.lvm_num.specs.Votes.{all_disks}
use Rattle.lvm_num.proofs.RecordLemmas.Newest.{is_one}
use Rattle.lvm_kept.specs.Group.{is_status_of, is_voter, has_quorum, status_among}
use Rattle.lvm_kept.proofs.CommittedLemmas.Finding.{is_offered, offered}
use Rattle.lvm_quorum.specs.declared.choice.Choice.{Choice}
use Rattle.lvm_rec.specs.declared.homes.Homes.{Homes}
use Rattle.lvm_quorum.specs.Choosing.{IsChosenGroup, IsOnly, IsGreatestEpoch}
use Rattle.lvm_core.specs.passed.Write.{SpareNewest}
use Rattle.lvm_quorum.proofs.KeptGroupLemmas.Chosen.{found_valid, row_valid}
use Rattle.lvm_quorum.proofs.GroupsLemmas.Epochs.{found_on}
use Rattle.lvm_quorum.specs.declared.row.Survey.{Survey}
use Rattle.lvm_quorum.specs.Surveyed.{surveyed, IsSurveyValid}
use Rattle.lvm_core.specs.declared.parts.Room.{Room}
use Rattle.lvm_write.specs.Next.{IsNextStatus}
use Rattle.lvm_recovery.specs.Plan.{ArePlannedInOrder}
use Rattle.lvm_recovery.specs.Planned.{ArePlanned}
use Rattle.lvm_varyon.specs.declared.plan.Plan.{Plan}
use Rattle.lvm_varyon.specs.Chosen.{HoldsByName, IsClockBehindGroup}
use Rattle.lvm_varyon.specs.Copied.{all_copies}
use Rattle.lvm_varyon.specs.Second.{first_stated, IsSecond}
use Rattle.lvm_varyon.specs.Planned.{IsPlanFor, IsPlan}

-- a status that is found is valid
status_valid : (s : Survey) (id : ℕ) (r : Stamped Status) → IsSurveyValid s → status_among (surveyed s) all_disks id ≡ Some r → IsValidStatus r.value
unfolding status_among
status_valid s id r valid found =
    let one = is_one Status (offered (is_status_of id) (surveyed s).status (is_voter (surveyed s) all_disks id)) (surveyed s).disks r found in
    row_valid IsValidStatus (λ row. row.status) (λ row. row.status_stamp) r (slice_get s.rows one.0)
    (is_offered (is_status_of id) (surveyed s).status (is_voter (surveyed s) all_disks id) one.0 r one.2).0 (λ row at. (valid one.0 row at).status)

module _ (s : Survey) (name : List ℕ) (choice : Choice) (is : IsChosenGroup (surveyed s) name choice) where
  own_id : is.id ≡ choice.descriptor.id
  own_id = sym (found_on (surveyed s) is.id is.group is.only.newest).2 ∙ ap (λ (g : Descriptor). g.id) (sym is.descriptor)

  pub group_valid : IsSurveyValid s → IsValid choice.descriptor
  group_valid valid = subst IsValid (sym is.descriptor) (found_valid s is.id is.group valid is.only.newest)

  pub was_valid : IsSurveyValid s → IsValidStatus choice.status
  was_valid valid = subst IsValidStatus (sym is.newest) (status_valid s is.id is.status valid is.only.found)

  pub holds : HoldsByName (surveyed s) name choice.descriptor is.status
  holds = record {
    newest = is.group;
    is = sym is.descriptor;
    only = subst (λ (n : ℕ). IsOnly (surveyed s) name n is.group is.status) own_id is.only;
    quorum = subst (λ (n : ℕ). IsTrue (has_quorum (surveyed s) all_disks n)) own_id is.quorum;
  }

  greatest : IsGreatestEpoch (surveyed s) choice.descriptor.id choice.seen
  greatest = subst (λ (n : ℕ). IsGreatestEpoch (surveyed s) n choice.seen) own_id is.seen

  -- the moment isn't later than all records, or it is the last one
  pub not_later : (moment : ℕ) → moment ≤ choice.seen → IsClockBehindGroup (surveyed s) name moment choice.seen
  not_later moment le = record { group = choice.descriptor; was = is.status; holds = holds; back = inl (greatest, le) }

  pub at_last : (moment : ℕ) → moment ≡ last_moment → IsClockBehindGroup (surveyed s) name moment moment
  at_last moment e = record { group = choice.descriptor; was = is.status; holds = holds; back = inr (e, e) }

  pub planned : (moment : ℕ) (room : Room) (homes : Homes) (plan : Plan) → IsSurveyValid s → choice.seen < moment → moment < last_moment → SpareNewest s homes → IsPlanFor s choice homes room plan → IsPlan s name moment room plan
  planned moment room homes plan valid later early spare by = record {
    group = choice.descriptor;
    was = is.status;
    next = by.next;
    valid = group_valid valid;
    chosen = record { holds = holds; seen = choice.seen; greatest = greatest; later = later; early = early };
    targets = λ d. ap (λ (n : ℕ). has n d) by.targets ∙ is.answering d ∙ ap (λ (n : ℕ). is_voter (surveyed s) all_disks n d) own_id;
    next_is = subst (λ (n : ℕ). IsNextStatus choice.descriptor (has n) is.status by.next) (sym by.targets) was_by;
    clean = by.clean;
    clean_is = subst (λ (n : ℕ). IsSecond choice.descriptor (has n) (first_stated moment by.next) by.clean) (sym by.targets) (by.clean_is (record { epoch = moment; seq = 2 }));
    clean_valid = by.clean_valid;
    descriptor = by.descriptor;
    status = by.status;
    second = by.second;
    copies = subst (λ (n : ℕ). ArePlanned (surveyed s) choice.descriptor (Some is.status) (has n) (all_copies plan)) (sym by.targets)
        (subst (λ (w : Stamped Status). ArePlanned (surveyed s) choice.descriptor (Some w) (has choice.answering) (all_copies plan)) was_is (by.copies is.status.stamp));
    order = subst (λ (n : ℕ). ArePlannedInOrder (surveyed s) choice.descriptor is.status.value (has n) (all_copies plan)) (sym by.targets)
        (subst (λ (v : Status). ArePlannedInOrder (surveyed s) choice.descriptor v (has choice.answering) (all_copies plan)) is.newest by.order);
    homes = subst (SpareNewest s) (sym by.same_homes) spare;
    parts = by.parts;
  }
    where
      was_is : record { stamp = is.status.stamp; value = choice.status } ≡ is.status
      was_is = λ i. record { stamp = is.status.stamp; value = is.newest i }

      was_by : IsNextStatus choice.descriptor (has choice.answering) is.status by.next
      was_by = subst (λ (w : Stamped Status). IsNextStatus choice.descriptor (has choice.answering) w by.next) was_is (by.next_is is.status.stamp)
