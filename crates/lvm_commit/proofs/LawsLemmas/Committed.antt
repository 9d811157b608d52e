-- A status or a descriptor that has been written is the committed one.
use Rattle.std.proofs.Common.{◌≡◌, ◌⊎◌, inl, inr, ⊎_elim, ℕ, ◌<◌, true, Option, Some, refl, sym, ap, subst, ◌∙◌, eq-eqb}
use Rattle.std.specs.Prelude.{IsTrue, ◌&&◌, []}
use Rattle.std.proofs.lemmas.Option.{same_Some}
use Rattle.std.proofs.lemmas.Bool.{eqb-true}
use Rattle.lvm_num.specs.declared.descriptor.Descriptor.{Descriptor}
use Rattle.lvm_num.specs.declared.status.Status.{Status}
use Rattle.lvm_num.specs.Disks.{Disks}
use Rattle.lvm_num.specs.Votes.{all_disks, votes_in, CanRead, CanWrite}
use Rattle.lvm_num.specs.Record.{Stamped, stamp_lt}
use Rattle.lvm_num.proofs.VotesLemmas.{read_meets_write, more_have_more, more_is_enough}
use Rattle.lvm_kept.specs.Contents.{Contents}
use Rattle.lvm_kept.specs.Group.{passes, is_of, descriptor_among, Finds, IsFound, members_in}
use Rattle.lvm_kept.specs.Committed.{SameVotes, DescriptorStands, IsWithinDisks}
use Rattle.lvm_kept.proofs.CommittedLemmas.Finding.{enough-too, finding_reads, finds_descriptor, finds_from, meets_writers, newest_among}
use Rattle.lvm_commit.specs.Committed.{IsAlike, ShowsCommitted}
use Rattle.lvm_commit.proofs.LawsOfFindingLemmas.NoMore.{descriptor_finds_no_more}
use Rattle.lvm_commit.specs.Laws.{IsLaterDescriptor, StatusIsCommitted, DescriptorIsCommitted}
use Rattle.lvm_kept.proofs.GroupLemmas.{still_finds, finds_before}
use Rattle.lvm_steps.proofs.GroupLemmas.Members.{among_all, same_id, same_votes, same_room}

-- ---- the next status

pub status_is_committed : StatusIsCommitted
status_is_committed group status there targets written next old new shows its later change within on =
    subst (λ (c : Contents). ShowsCommitted c group next.value written) (sym change.rest) (record {
      found = still_finds old new.status old.note old.block all_disks group.id group shows.found;
      only = λ disks k f. shows.only disks k (finds_before old new.status old.note old.block disks group.id k f);
      descriptor = shows.descriptor;
      value = shows.value;
      latest = shows.latest;
      described = λ d is. shows.described d (within d is);
      room = λ d is. shows.room d (within d is);
      own = its;
      stands = next;
      committed = refl;
      stated = on;
      last = λ d r e own. ⊎_elim
          (λ (same : new.status d ≡ old.status d). inl (later d r (sym same ∙ e) own))
          (λ (put : IsTrue (targets d) × (new.status d ≡ Some next)). inr (same_Some r next (sym e ∙ put.1)))
          (change.own d);
    })

-- ---- the next descriptor

module _ (old : Contents) (shown : ℕ → Option (Stamped Descriptor)) (group : Descriptor) (status : Status) (there targets written : Disks) (next : Stamped Descriptor) (within : IsWithinDisks old) (shows : ShowsCommitted old group status there)
    (alike : IsAlike next.value group) (later : IsLaterDescriptor old group next) (own : (d : ℕ) → (shown d ≡ old.descriptor d) ⊎ (IsTrue (targets d) × (shown d ≡ Some next)))
    (showing : (d : ℕ) → IsTrue (targets d) → IsTrue (there d)) (still_there : (d : ℕ) → IsTrue (written d) → IsTrue (there d)) (on : (d : ℕ) → IsTrue (written d) → shown d ≡ Some next) (enough : CanWrite next.value written) where
  abbrev new : Contents
  new = record old { descriptor = shown }

  abbrev id : ℕ
  id = next.value.id

  id_is : id ≡ group.id
  id_is = same_id next.value group alike

  -- the disks of the group are the same
  shows_same : (d : ℕ) → passes (is_of id) (shown d) ≡ passes (is_of group.id) (old.descriptor d)
  shows_same d = ⊎_elim
      (λ (same : shown d ≡ old.descriptor d). ap (passes (is_of id)) same ∙ ap (λ (n : ℕ). passes (is_of n) (old.descriptor d)) id_is)
      (λ (put : IsTrue (targets d) × (shown d ≡ Some next)). ap (passes (is_of id)) put.1 ∙ eq-eqb next.value.id id refl
      ∙ sym (ap (passes (is_of group.id)) (shows.described d (showing d put.0)) ∙ eq-eqb shows.descriptor.value.id group.id (ap (λ (g : Descriptor). g.id) shows.value)))
      (own d)

  members_same : (set : Disks) (d : ℕ) → members_in new set id next.value d ≡ members_in old set group.id group d
  members_same set d =
      let shown_same = shows_same d in
      let room = same_room old d next.value group alike in
      λ t. set d && shown_same t && room t

  members_are : (set : Disks) → members_in new set id next.value ≡ members_in old set group.id group
  members_are set = λ t d. members_same set d t

  -- what the one can read the other can
  reads_too : (set : Disks) → CanRead group (members_in old set group.id group) → CanRead next.value (members_in new set id next.value)
  reads_too set can = subst (λ (v : Disks). CanRead next.value v) (sym (members_are set)) (enough-too next.value group (members_in old set group.id group) (same_votes next.value group alike) ∙ can)

  all_read : CanRead next.value (members_in new all_disks id next.value)
  all_read = reads_too all_disks (finding_reads old all_disks group.id group shows.found).reads.enough

  latest : (d : ℕ) (r : Stamped Descriptor) → shown d ≡ Some r → r.value.id ≡ id → (stamp_lt r.stamp next.stamp ≡ true) ⊎ (r ≡ next)
  latest d r e its = ⊎_elim
      (λ (same : shown d ≡ old.descriptor d). inl (later d r (sym same ∙ e) (its ∙ id_is)))
      (λ (put : IsTrue (targets d) × (shown d ≡ Some next)). inr (same_Some r next (sym e ∙ put.1)))
      (own d)

  stands : DescriptorStands new id written next next
  stands = record {
    own = eq-eqb next.value.id id refl;
    next_own = eq-eqb next.value.id id refl;
    later = inl refl;
    have = λ d i. inl (on d i);
    newest = λ d r is its. ⊎_elim (λ low. inl low) (λ same. inr (inl same)) (latest d r is (eqb-true r.value.id id its));
  }

  within_new : (d : ℕ) (r : Stamped Descriptor) → shown d ≡ Some r → d < old.disks
  within_new d r e = ⊎_elim
      (λ (same : shown d ≡ old.descriptor d). within.descriptors d r (sym same ∙ e))
      (λ (put : IsTrue (targets d) × (shown d ≡ Some next)). within.descriptors d shows.descriptor (shows.described d (showing d put.0)))
      (own d)

  newest_is : descriptor_among new all_disks id ≡ Some next
  unfolding descriptor_among
  newest_is =
      let both = read_meets_write next.value (members_in new all_disks id next.value) written all_read enough in
      ⊎_elim (λ is. is) (λ is. is) (newest_among Descriptor (is_of id) shown all_disks written old.disks next next stands both.0 refl both.3 within_new)

  -- what is found was found before, and then its quorum has one of these disks; or it is the next one
  only : (disks : Disks) (k : Descriptor) → Finds new disks id k → k ≡ next.value
  only disks k f = ⊎_elim
      (λ (was : IsFound old id k).
      let same : k ≡ group = shows.only was.0 k (subst (λ (n : ℕ). Finds old was.0 n k) id_is was.1) in
      let votes : SameVotes k next.value = subst (λ (g : Descriptor). SameVotes g next.value) (sym same) (same_votes group next.value (sym alike)) in
      ⊎_elim (λ e. e) (λ e. e) (finds_descriptor new id written next next (record { descriptors = within_new; statuses = within.statuses }) stands disks k f (meets_writers new disks id k next.value written f votes enough)))
      (λ (is : (id ≡ next.value.id) × (k ≡ next.value)). is.1)
      (descriptor_finds_no_more targets next old new (record { descriptors = within_new; statuses = within.statuses }) (λ d r e its. later d r e (its ∙ id_is)) (record { own = own; rest = refl }) id k (disks, f))

  pub now_committed : ShowsCommitted new next.value status written
  now_committed = record {
    found = finds_from new all_disks id next newest_is all_read;
    only = only;
    descriptor = next;
    value = refl;
    latest = latest;
    described = on;
    room = λ d is. same_room old d next.value group alike ∙ shows.room d (still_there d is);
    own = shows.own ∙ sym id_is;
    stands = shows.stands;
    committed = shows.committed;
    stated = λ d is. shows.stated d (still_there d is);
    last = λ d r e its. shows.last d r e (its ∙ id_is);
  }

pub descriptor_is_committed : DescriptorIsCommitted
descriptor_is_committed group status there targets written next old new within shows alike later change showing still_there on enough =
    subst (λ (c : Contents). ShowsCommitted c next.value status written) (sym change.rest) (now_committed old new.descriptor group status there targets written next within shows alike later change.own showing still_there on enough)
