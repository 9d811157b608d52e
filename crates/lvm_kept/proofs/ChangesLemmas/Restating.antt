-- Changes of statuses, under the same descriptors.
use Rattle.std.proofs.Common.{◌≡◌, ◌⊎◌, ⊎_elim, ℕ, ◌<◌, List, [], ◌∷◌, Option, Some, refl, sym, ap, subst, ◌∙◌}
use Rattle.std.proofs.lemmas.Option.{same_Some}
use Rattle.lvm_disk.specs.passed.Num.{LvRow, Descriptor, Status, Disks, all_disks, Stamped}
use Rattle.lvm_vol.specs.Facts.{Fact}
use Rattle.lvm_kept.specs.Contents.{Contents}
use Rattle.lvm_kept.specs.Group.{descriptor_among, is_voter, has_quorum, status_among, Finds, IsFound, members_in, status_by, ReadsGroup, ReadsBy, fresh_on, IsOneOf, IsSome}
use Rattle.lvm_kept.specs.Kept.{HasStatus, BlocksKept, IsSettledIn, IsAvailable, Kept}
use Rattle.lvm_kept.specs.Changes.{Serves, HasNoVolume, StatusChangeKeeps}
use Rattle.lvm_kept.proofs.CommittedLemmas.Finding.{finding_reads}
use Rattle.lvm_kept.proofs.ChangesLemmas.Entries.{volume_is_row}
use Rattle.lvm_kept.proofs.KeptLemmas.{same_blocks}

no_row : (rows : List LvRow) (row : LvRow) → rows ≡ [] → IsOneOf rows row → ⊥
no_row [] row empty is = is
no_row (r ∷ rows) row empty is = cc

no_need : (rows : List LvRow) (s : Option (Stamped Status)) → rows ≡ [] → HasStatus rows s
no_need [] s empty = tt
no_need (r ∷ rows) s empty = absurd cc

module _ (old : Contents) (status : ℕ → Option (Stamped Status)) where
  abbrev new : Contents
  new = record old { status = status }

  group_same : (disks : Disks) (id : ℕ) → descriptor_among new disks id ≡ descriptor_among old disks id
  unfolding descriptor_among
  group_same disks id = refl

  voter_same : (disks : Disks) (id : ℕ) → is_voter new disks id ≡ is_voter old disks id
  unfolding is_voter descriptor_among
  voter_same disks id = refl

  quorum_same : (disks : Disks) (id : ℕ) → has_quorum new disks id ≡ has_quorum old disks id
  unfolding has_quorum is_voter descriptor_among
  quorum_same disks id = refl

  found_before : (disks : Disks) (id : ℕ) (group : Descriptor) → Finds new disks id group → Finds old disks id group
  found_before disks id group f = record { quorum = sym (quorum_same disks id) ∙ f.quorum; newest = f.newest; found = sym (group_same disks id) ∙ f.found; is = f.is }

  found_after : (disks : Disks) (id : ℕ) (group : Descriptor) → Finds old disks id group → Finds new disks id group
  found_after disks id group f = record { quorum = quorum_same disks id ∙ f.quorum; newest = f.newest; found = group_same disks id ∙ f.found; is = f.is }

  is_found_before : (id : ℕ) (group : Descriptor) → IsFound new id group → IsFound old id group
  is_found_before id group is = (is.0, found_before is.0 id group is.1)

  reads_before : (disks : Disks) (id : ℕ) (group : Descriptor) → ReadsGroup new disks id group → ReadsGroup old disks id group
  reads_before disks id group reads = record { found = is_found_before id group reads.found; enough = reads.enough }

  module _ (facts : List Fact) (next : Stamped Status) (kept : Kept old facts)
      (own : (d : ℕ) → (status d ≡ old.status d) ⊎ (status d ≡ Some next))
      (stamp : (d : ℕ) (r : Stamped Status) → old.status d ≡ Some r → r.value.id ≡ next.value.id → r.stamp ≡ next.stamp → r ≡ next)
      (found : (b : Disks) (id : ℕ) (h : Descriptor) → ReadsGroup old b id h
      → (status_by new b id h ≡ status_by old b id h) ⊎ ((status_by new b id h ≡ Some next) × Serves old facts id next) ⊎ HasNoVolume old id) where
    -- what holds by the old status and by the next, and of a group without a volume, holds by the one that is found now
    by_status : (P : Option (Stamped Status) → Type 0) (b : Disks) (id : ℕ) (h : Descriptor) → ReadsGroup old b id h
        → P (status_by old b id h) → (Serves old facts id next → P (Some next)) → (HasNoVolume old id → (s : Option (Stamped Status)) → P s) → P (status_by new b id h)
    by_status P b id h reads was serves none = ⊎_elim
        (λ same. subst P (sym same) was)
        (⊎_elim (λ is. subst P (sym is.0) (serves is.1)) (λ empty. none empty (status_by new b id h)))
        (found b id h reads)

    has_status : (rows : List LvRow) → HasStatus rows (Some next)
    has_status [] = tt
    has_status (row ∷ rows) = refl

    status_there : (b : Disks) (id : ℕ) (h k : Descriptor) → ReadsGroup old b id h → IsFound old id k → HasStatus k.lvs (status_by new b id h)
    status_there b id h k reads is = by_status (HasStatus k.lvs) b id h reads (kept.lasting.status b id h k reads is) (λ serves. has_status k.lvs) (λ empty s. no_need k.lvs s (empty k is))

    across : (b : Disks) (id : ℕ) (h k : Descriptor) → ReadsGroup old b id h → IsFound old id k → BlocksKept new facts k (members_in new all_disks id k) (status_by new b id h)
    across b id h k reads is = same_blocks old old.descriptor status facts k (members_in old all_disks id k) (status_by new b id h) (by_status (λ s. BlocksKept old facts k (members_in old all_disks id k) s) b id h reads
        (kept.lasting.across b id h k reads is) (λ serves. serves.across k is) (λ empty s row lp n one. absurd (no_row k.lvs row (empty k is) one)))

    some : (b : Disks) (id : ℕ) (h k : Descriptor) → ReadsGroup old b id h → IsFound old id k → (row : LvRow) (lp : ℕ) → IsOneOf k.lvs row → lp < row.lps
        → IsSome (fresh_on (members_in new all_disks id k) (status_by new b id h) row lp)
    some b id h k reads is row lp one inside = by_status (λ s. IsSome (fresh_on (members_in old all_disks id k) s row lp)) b id h reads
        (kept.lasting.some b id h k reads is row lp one inside) (λ serves. serves.some k is row lp one inside) (λ empty s. absurd (no_row k.lvs row (empty k is) one))

    -- a finding set, by its own voters and its own status
    module _ (disks : Disks) (id : ℕ) (group : Descriptor) (f : Finds new disks id group) where
      was : Finds old disks id group
      was = found_before disks id group f

      reads : ReadsBy new disks id group
      reads = finding_reads new disks id group f

      reads_was : ReadsBy old disks id group
      reads_was = finding_reads old disks id group was

      -- P holds of the status that the set finds
      finding : (P : Option (Stamped Status) → Type 0) → P (status_among old disks id) → (Serves old facts id next → P (Some next)) → (HasNoVolume old id → (s : Option (Stamped Status)) → P s) → P (status_among new disks id)
      finding P old_is serves none = subst P (sym reads.status) (by_status P disks id group reads_was.reads (subst P reads_was.status old_is) serves none)

      copies : BlocksKept new facts group (is_voter new disks id) (status_among new disks id)
      copies = subst (λ (v : Disks). BlocksKept new facts group v (status_among new disks id)) (sym (voter_same disks id))
          (same_blocks old old.descriptor status facts group (is_voter old disks id) (status_among new disks id) (finding (λ s. BlocksKept old facts group (is_voter old disks id) s)
          (kept.agrees.copies disks id group was) (λ serves. serves.copies disks group was) (λ empty s row lp n one. absurd (no_row group.lvs row (empty group (disks, was)) one))))

      there : HasStatus group.lvs (status_among new disks id)
      there = finding (HasStatus group.lvs) (kept.agrees.status disks id group was) (λ serves. has_status group.lvs) (λ empty s. no_need group.lvs s (empty group (disks, was)))

    available : (lv : ℕ) → IsSettledIn facts lv → IsAvailable new facts
    available lv settled =
        let a : IsAvailable old facts = kept.agrees.available lv settled in
        let f : Finds new all_disks a.id a.group = found_after all_disks a.id a.group a.found in
        let reads_new : ReadsBy new all_disks a.id a.group = finding_reads new all_disks a.id a.group f in
        let reads_old : ReadsBy old all_disks a.id a.group = finding_reads old all_disks a.id a.group a.found in
        record {
          id = a.id;
          group = a.group;
          found = f;
          copies = λ l lp row is_settled is inside.
              subst (λ (v : Disks). IsSome (fresh_on v (status_among new all_disks a.id) row lp)) (sym reads_new.voters)
              (subst (λ (s : Option (Stamped Status)). IsSome (fresh_on (members_in new all_disks a.id a.group) s row lp)) (sym reads_new.status)
              (some all_disks a.id a.group a.group reads_old.reads (all_disks, a.found) row lp (volume_is_row a.group l row is) inside));
        }

    one_of : (d e : ℕ) (r s : Stamped Status) → status d ≡ Some r → status e ≡ Some s → r.value.id ≡ s.value.id → r.stamp ≡ s.stamp → r ≡ s
    one_of d e r s is also ids stamps = ⊎_elim
        (λ old_r. ⊎_elim
        (λ old_s. kept.lasting.statuses d e r s (sym old_r ∙ is) (sym old_s ∙ also) ids stamps)
        (λ new_s. let same : s ≡ next = same_Some s next (sym also ∙ new_s) in
        stamp d r (sym old_r ∙ is) (ids ∙ ap (λ (x : Stamped Status). x.value.id) same) (stamps ∙ ap (λ (x : Stamped Status). x.stamp) same) ∙ sym same)
        (own e))
        (λ new_r. let same : r ≡ next = same_Some r next (sym is ∙ new_r) in ⊎_elim
        (λ old_s. same ∙ sym (stamp e s (sym old_s ∙ also) (sym ids ∙ ap (λ (x : Stamped Status). x.value.id) same) (sym stamps ∙ ap (λ (x : Stamped Status). x.stamp) same)))
        (λ new_s. same ∙ sym (same_Some s next (sym also ∙ new_s)))
        (own e))
        (own d)

    pub restated : Kept new facts
    restated = record {
      agrees = record {
        volumes = λ disks id group f. kept.agrees.volumes disks id group (found_before disks id group f);
        status = λ disks id group f. there disks id group f;
        copies = λ disks id group f. copies disks id group f;
        raw = kept.agrees.raw;
        available = available;
      };
      lasting = record {
        common = λ a b id g h r s. kept.lasting.common a b id g h (reads_before a id g r) (reads_before b id h s);
        status = λ b id h k r is. status_there b id h k (reads_before b id h r) (is_found_before id k is);
        across = λ b id h k r is. across b id h k (reads_before b id h r) (is_found_before id k is);
        some = λ b id h k r is. some b id h k (reads_before b id h r) (is_found_before id k is);
        size = λ id g h is also. kept.lasting.size id g h (is_found_before id g is) (is_found_before id h also);
        partitions = λ id g h is also. kept.lasting.partitions id g h (is_found_before id g is) (is_found_before id h also);
        descriptors = kept.lasting.descriptors;
        statuses = one_of;
      };
    }

pub statuses_keep : StatusChangeKeeps
statuses_keep old new facts next change kept =
    subst (λ (c : Contents). Kept c facts) (sym change.rest) (restated old new.status facts next kept change.own change.stamp (λ b id h reads.
    subst (λ (c : Contents). (status_by c b id h ≡ status_by old b id h) ⊎ ((status_by c b id h ≡ Some next) × Serves old facts id next) ⊎ HasNoVolume old id) change.rest (change.found b id h reads)))
