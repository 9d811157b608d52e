-- Changes of data and of notes, under the same descriptors and statuses.
use Rattle.std.proofs.Common.{◌≡◌, ◌⊎◌, inl, inr, ⊎_elim, ℕ, List, [], ◌∷◌, ◌++◌, Option, refl, sym, subst, ◌∙◌}
use Rattle.lvm_disk.specs.passed.Num.{Pp, LvRow, Mode, Descriptor, Status, Sector, Disks, all_disks, Stamped, Noted}
use Rattle.lvm_disk.specs.passed.NumDescriptorMode.{Active, Passive, Off}
use Rattle.lvm_disk.proofs.passed.Num.{all_two}
use Rattle.lvm_vol.specs.declared.entry.Vol.TheVariants.{Disk, Lv}
use Rattle.lvm_vol.specs.Facts.{Fact, Cut}
use Rattle.lvm_vol.specs.May.{Known, known, May, IsValue}
use Rattle.lvm_kept.specs.Contents.{Contents}
use Rattle.lvm_kept.specs.Group.{descriptor_among, is_voter, has_quorum, status_among, Finds, IsFound, members_in, status_by, ReadsGroup, fresh_on, block_at, IsSome, HoldOne}
use Rattle.lvm_kept.specs.Kept.{HasStatus, MayDiffer, IsBlockKept, BlocksKept, RawAgrees, IsAvailable, Kept}
use Rattle.lvm_kept.specs.Changes.{Unchanged, Excused, BlocksChange, DataChangeKeeps, StayExcused, NoteChangeKeeps}

-- other notes and other data under the same descriptors and statuses
abbrev pub with : Contents → (ℕ → Option Noted) → (ℕ → ℕ → Sector) → Contents
with old note block = record old { note = note; block = block }

module _ (old : Contents) (note : ℕ → Option Noted) (block : ℕ → ℕ → Sector) where
  group_same : (disks : Disks) (id : ℕ) → descriptor_among (with old note block) disks id ≡ descriptor_among old disks id
  unfolding descriptor_among
  group_same disks id = refl

  voter_same : (disks : Disks) (id : ℕ) → is_voter (with old note block) disks id ≡ is_voter old disks id
  unfolding is_voter descriptor_among
  voter_same disks id = refl

  quorum_same : (disks : Disks) (id : ℕ) → has_quorum (with old note block) disks id ≡ has_quorum old disks id
  unfolding has_quorum is_voter descriptor_among
  quorum_same disks id = refl

  status_same : (disks : Disks) (id : ℕ) → status_among (with old note block) disks id ≡ status_among old disks id
  unfolding status_among is_voter descriptor_among
  status_same disks id = refl

  -- what is found after the change was found before, and the other way round
  found_before : (disks : Disks) (id : ℕ) (group : Descriptor) → Finds (with old note block) disks id group → Finds old disks id group
  found_before disks id group f = record { quorum = sym (quorum_same disks id) ∙ f.quorum; newest = f.newest; found = sym (group_same disks id) ∙ f.found; is = f.is }

  found_after : (disks : Disks) (id : ℕ) (group : Descriptor) → Finds old disks id group → Finds (with old note block) disks id group
  found_after disks id group f = record { quorum = quorum_same disks id ∙ f.quorum; newest = f.newest; found = group_same disks id ∙ f.found; is = f.is }

  is_found_before : (id : ℕ) (group : Descriptor) → IsFound (with old note block) id group → IsFound old id group
  is_found_before id group is = (is.0, found_before is.0 id group is.1)

  reads_before : (disks : Disks) (id : ℕ) (group : Descriptor) → ReadsGroup (with old note block) disks id group → ReadsGroup old disks id group
  reads_before disks id group reads = record { found = is_found_before id group reads.found; enough = reads.enough }

  module _ (facts : List Fact) (kept : Kept old facts)
      (copies : (disks : Disks) (id : ℕ) (group : Descriptor) → Finds old disks id group → BlocksKept (with old note block) facts group (is_voter old disks id) (status_among old disks id))
      (across : (b : Disks) (id : ℕ) (h k : Descriptor) → ReadsGroup old b id h → IsFound old id k → BlocksKept (with old note block) facts k (members_in old all_disks id k) (status_by old b id h))
      (raw : RawAgrees (with old note block) facts) where
    -- by the same voters and the same status
    by_same : (group : Descriptor) (disks : Disks) (id : ℕ) → BlocksKept (with old note block) facts group (is_voter old disks id) (status_among old disks id)
        → BlocksKept (with old note block) facts group (is_voter (with old note block) disks id) (status_among (with old note block) disks id)
    by_same group disks id blocks =
        subst (λ (s : Option (Stamped Status)). BlocksKept (with old note block) facts group (is_voter (with old note block) disks id) s) (sym (status_same disks id))
        (subst (λ (v : Disks). BlocksKept (with old note block) facts group v (status_among old disks id)) (sym (voter_same disks id)) blocks)

    some_same : (row : LvRow) (lp : ℕ) (disks : Disks) (id : ℕ) → IsSome (fresh_on (is_voter old disks id) (status_among old disks id) row lp)
        → IsSome (fresh_on (is_voter (with old note block) disks id) (status_among (with old note block) disks id) row lp)
    some_same row lp disks id some =
        subst (λ (s : Option (Stamped Status)). IsSome (fresh_on (is_voter (with old note block) disks id) s row lp)) (sym (status_same disks id))
        (subst (λ (v : Disks). IsSome (fresh_on v (status_among old disks id) row lp)) (sym (voter_same disks id)) some)

    still_available : IsAvailable old facts → IsAvailable (with old note block) facts
    still_available a = record {
      id = a.id;
      group = a.group;
      found = found_after all_disks a.id a.group a.found;
      copies = λ lv lp row settled is inside. some_same row lp all_disks a.id (a.copies lv lp row settled is inside);
    }

    pub still_kept : Kept (with old note block) facts
    still_kept = record {
      agrees = record {
        volumes = λ disks id group f. kept.agrees.volumes disks id group (found_before disks id group f);
        status = λ disks id group f. subst (HasStatus group.lvs) (sym (status_same disks id)) (kept.agrees.status disks id group (found_before disks id group f));
        copies = λ disks id group f. by_same group disks id (copies disks id group (found_before disks id group f));
        raw = raw;
        available = λ lv settled. still_available (kept.agrees.available lv settled);
      };
      lasting = record {
        common = λ a b id g h r s. kept.lasting.common a b id g h (reads_before a id g r) (reads_before b id h s);
        status = λ b id h k r is. kept.lasting.status b id h k (reads_before b id h r) (is_found_before id k is);
        across = λ b id h k r is. across b id h k (reads_before b id h r) (is_found_before id k is);
        some = λ b id h k r is. kept.lasting.some b id h k (reads_before b id h r) (is_found_before id k is);
        size = λ id g h is also. kept.lasting.size id g h (is_found_before id g is) (is_found_before id h also);
        partitions = λ id g h is also. kept.lasting.partitions id g h (is_found_before id g is) (is_found_before id h also);
        descriptors = kept.lasting.descriptors;
        statuses = kept.lasting.statuses;
      };
    }

-- ---- data

module _ (old : Contents) (block : ℕ → ℕ → Sector) where
  abbrev written : Contents
  written = record old { block = block }

  -- the notes are the same
  differ : (status : Option (Stamped Status)) (lv : ℕ) (mode : Mode) (copies : List Pp) (k : Known) (b : ℕ) → MayDiffer old status lv mode copies k b → MayDiffer written status lv mode copies k b
  differ status lv Active copies k b m = m
  differ status lv Passive copies k b m = m
  differ status lv Off copies k b m = m

  block_kept : (mib : ℕ) (status : Option (Stamped Status)) (row : LvRow) (copies : List Pp) (k : Known) (b : ℕ)
      → Unchanged old written mib copies b ⊎ Excused old written mib status row copies k b → IsBlockKept old mib status row copies k b → IsBlockKept written mib status row copies k b
  block_kept mib status row copies k b (inl unchanged) kept = record {
    allowed = all_two (λ p. block_at written mib p b ≡ block_at old mib p b) (λ p. IsValue k (block_at old mib p b)) (λ p. IsValue k (block_at written mib p b)) (λ p e h. subst (IsValue k) (sym e) h) copies unchanged kept.allowed;
    equal = ⊎_elim
        (λ (one : HoldOne old mib copies b). inl (one.0, all_two (λ p. block_at written mib p b ≡ block_at old mib p b) (λ p. block_at old mib p b ≡ one.0) (λ p. block_at written mib p b ≡ one.0) (λ p e h. e ∙ h) copies unchanged one.1))
        (λ (m : MayDiffer old status row.number row.mode copies k b). inr (differ status row.number row.mode copies k b m))
        kept.equal;
  }
  block_kept mib status row copies k b (inr excused) kept = record {
    allowed = excused.allowed;
    equal = ⊎_elim (λ one. inl one) (λ (m : MayDiffer old status row.number row.mode copies k b). inr (differ status row.number row.mode copies k b m)) excused.differ;
  }

pub data_keeps : DataChangeKeeps
data_keeps old new facts change kept =
    let changed : (group : Descriptor) (disks : Disks) (status : Option (Stamped Status)) → BlocksChange old new facts group disks status → BlocksChange old (record old { block = new.block }) facts group disks status =
    λ group disks status. subst (λ (c : Contents). BlocksChange old c facts group disks status) change.rest in
    subst (λ (c : Contents). Kept c facts) (sym change.rest) (still_kept old old.note new.block facts kept
    (λ disks id group f row lp b is inside.
    block_kept old new.block group.mib (status_among old disks id) row (fresh_on (is_voter old disks id) (status_among old disks id) row lp) (known (facts ++ Cut ∷ []) (Lv row.number) b) b
    (changed group (is_voter old disks id) (status_among old disks id) (change.copies disks id group f) row lp b is inside) (kept.agrees.copies disks id group f row lp b is inside))
    (λ b id h k r found row lp n is inside.
    block_kept old new.block k.mib (status_by old b id h) row (fresh_on (members_in old all_disks id k) (status_by old b id h) row lp) (known (facts ++ Cut ∷ []) (Lv row.number) n) n
    (changed k (members_in old all_disks id k) (status_by old b id h) (change.across b id h k r found) row lp n is inside) (kept.lasting.across b id h k r found row lp n is inside))
    (λ d b there none low high. ⊎_elim
    (λ same. subst (λ (x : Sector). May (known (facts ++ Cut ∷ []) (Disk d) b) x) (sym same) (kept.agrees.raw d b there none low high))
    (λ may. may)
    (change.raw d b there none low high)))

-- ---- notes

module _ (old : Contents) (note : ℕ → Option Noted) where
  abbrev noted : Contents
  noted = record old { note = note }

  still_excused : (mib : ℕ) (status : Option (Stamped Status)) (row : LvRow) (copies : List Pp) (k : Known) (b : ℕ)
      → HoldOne old mib copies b ⊎ MayDiffer noted status row.number row.mode copies k b → IsBlockKept old mib status row copies k b → IsBlockKept noted mib status row copies k b
  still_excused mib status row copies k b differ kept = record { allowed = kept.allowed; equal = differ }

pub notes_keep : NoteChangeKeeps
notes_keep old new facts change kept =
    let excused : (group : Descriptor) (disks : Disks) (status : Option (Stamped Status)) → StayExcused old new facts group disks status → StayExcused old (record old { note = new.note }) facts group disks status =
    λ group disks status. subst (λ (c : Contents). StayExcused old c facts group disks status) change.rest in
    subst (λ (c : Contents). Kept c facts) (sym change.rest) (still_kept old new.note old.block facts kept
    (λ disks id group f row lp b is inside.
    still_excused old new.note group.mib (status_among old disks id) row (fresh_on (is_voter old disks id) (status_among old disks id) row lp) (known (facts ++ Cut ∷ []) (Lv row.number) b) b
    (excused group (is_voter old disks id) (status_among old disks id) (change.copies disks id group f) row lp b is inside) (kept.agrees.copies disks id group f row lp b is inside))
    (λ b id h k r found row lp n is inside.
    still_excused old new.note k.mib (status_by old b id h) row (fresh_on (members_in old all_disks id k) (status_by old b id h) row lp) (known (facts ++ Cut ∷ []) (Lv row.number) n) n
    (excused k (members_in old all_disks id k) (status_by old b id h) (change.across b id h k r found) row lp n is inside) (kept.lasting.across b id h k r found row lp n is inside))
    kept.agrees.raw)
