-- Descriptors under one stamp, with one list of volumes and with another.
use Rattle.std.proofs.Common.{◌≡◌, ◌⊎◌, inl, inr, ⊎_elim, ℕ, zero, suc, Bool, true, false, ◌&&◌, List, Option, Some, None, refl, sym, ap, subst, ◌∙◌, eq-eqb}
use Rattle.std.specs.Prelude.{IsTrue, ◌==◌, if◌then◌else◌, option_map}
use Rattle.std.proofs.lemmas.Option.{same_Some}
use Rattle.std.proofs.lemmas.Bool.{eqb-true}
use Rattle.lvm_num.specs.declared.record.Stamp.{Stamp}
use Rattle.lvm_num.specs.declared.descriptor.LvRow.{LvRow}
use Rattle.lvm_num.specs.declared.descriptor.Descriptor.{Descriptor}
use Rattle.lvm_num.specs.Disks.{Disks}
use Rattle.lvm_num.specs.Votes.{votes_in, is_enough_to_read, CanRead}
use Rattle.lvm_num.specs.Record.{Stamped, stamp_lt, newer, newest_below}
use Rattle.lvm_num.proofs.RecordLemmas.Newest.{is_one}
use Rattle.lvm_vol.specs.Facts.{Fact}
use Rattle.lvm_kept.specs.Contents.{Contents}
use Rattle.lvm_kept.specs.Group.{if_passes, passes, is_of, is_status_of, has_room, descriptor_among, is_voter, has_quorum, Finds, IsFound, members_in, status_by, ReadsGroup}
use Rattle.lvm_kept.specs.Committed.{IsWithinDisks}
use Rattle.lvm_kept.specs.Kept.{Kept}
use Rattle.lvm_kept.proofs.CommittedLemmas.Finding.{offered, is_offered}
use Rattle.lvm_kept.proofs.ChangesLemmas.Restamping.{restamping_keeps, members_same as restamped_members, status_same as restamped_status, reads_before as restamped_reads}
use Rattle.lvm_steps.proofs.RecordLemmas.{split, join, not-itself}

-- ---- a record with other volumes

abbrev pub back_if : List LvRow → Bool → Stamped Descriptor → Stamped Descriptor
back_if rows true r = record r { value = record r.value { lvs = rows } }
back_if rows false r = r

module _ (g : Descriptor) (n : Stamp) where
  -- the record of the group under the stamp
  abbrev pub is_next : Stamped Descriptor → Bool
  is_next r = (r.stamp.epoch == n.epoch) && (r.stamp.seq == n.seq) && (r.value.id == g.id)

  abbrev pub back : Stamped Descriptor → Stamped Descriptor
  back r = back_if g.lvs (is_next r) r

  -- what looks at no volumes sees no difference
  blind : {X : Type 0} (see : Stamped Descriptor → X) → ((r : Stamped Descriptor) → see (record r { value = record r.value { lvs = g.lvs } }) ≡ see r) → (r : Stamped Descriptor) → see (back r) ≡ see r
  blind see same r = by_test (is_next r)
    where
      by_test : (t : Bool) → see (back_if g.lvs t r) ≡ see r
      by_test true = same r
      by_test false = refl

  newer_back : (a b : Option (Stamped Descriptor)) → newer (option_map back a) (option_map back b) ≡ option_map back (newer a b)
  newer_back None b = refl
  newer_back (Some a) None = refl
  newer_back (Some a) (Some b) =
      (λ t. if stamp_lt (blind (λ r. r.stamp) (λ r. refl) a t) (blind (λ r. r.stamp) (λ r. refl) b t) then Some (back b) else Some (back a))
      ∙ by_test (stamp_lt a.stamp b.stamp)
    where
      by_test : (t : Bool) → (if t then Some (back b) else Some (back a)) ≡ option_map back (if t then Some b else Some a)
      by_test true = refl
      by_test false = refl

  newest_back : (at : ℕ → Option (Stamped Descriptor)) (m : ℕ) → newest_below (λ d. option_map back (at d)) m ≡ option_map back (newest_below at m)
  unfolding newest_below
  newest_back at zero = refl
  newest_back at (suc m) = let rest = newest_back at m in (λ t. newer (rest t) (option_map back (at m))) ∙ newer_back (newest_below at m) (at m)

  passes_back : (test : Descriptor → Bool) → ((v : Descriptor) → test (record v { lvs = g.lvs }) ≡ test v) → (o : Option (Stamped Descriptor)) → passes test (option_map back o) ≡ passes test o
  passes_back test same None = refl
  passes_back test same (Some r) = blind (λ x. test x.value) (λ x. same x.value) r

  offered_back : (id : ℕ) (in_set : Bool) (o : Option (Stamped Descriptor)) → (if in_set then if_passes (is_of id) (option_map back o) else None) ≡ option_map back (if in_set then if_passes (is_of id) o else None)
  offered_back id false o = refl
  offered_back id true None = refl
  offered_back id true (Some r) = ap (λ (t : Bool). if t then Some (back r) else None) (blind (λ x. is_of id x.value) (λ x. refl) r) ∙ by_test (is_of id r.value)
    where
      by_test : (t : Bool) → (if t then Some (back r) else None) ≡ option_map back (if t then Some r else None)
      by_test true = refl
      by_test false = refl

-- ---- the change

module _ (old : Contents) (shown : ℕ → Option (Stamped Descriptor)) (g : Descriptor) (n : Stamp) (rows : List LvRow)
    (own : (d : ℕ) → (shown d ≡ old.descriptor d) ⊎ ((shown d ≡ Some (record { stamp = n; value = record g { lvs = rows } })) × IsTrue (passes (is_of g.id) (old.descriptor d))))
    (later : (d : ℕ) (r : Stamped Descriptor) → old.descriptor d ≡ Some r → r.value.id ≡ g.id → stamp_lt r.stamp n ≡ true)
    (found : IsFound old g.id g) (within : IsWithinDisks old) where
  abbrev pub new : Contents
  new = record old { descriptor = shown }

  -- the descriptor with the other volumes
  abbrev pub h : Descriptor
  h = record g { lvs = rows }

  abbrev next : Stamped Descriptor
  next = record { stamp = n; value = h }

  -- as if the new stamp stood over the old volumes
  abbrev stood : ℕ → Option (Stamped Descriptor)
  stood d = option_map (back g n) (shown d)

  abbrev pub mid : Contents
  mid = record old { descriptor = stood }

  next_is : is_next g n next ≡ true
  next_is = join ((n.epoch == n.epoch) && (n.seq == n.seq)) (g.id == g.id) (join (n.epoch == n.epoch) (n.seq == n.seq) (eq-eqb n.epoch n.epoch refl) (eq-eqb n.seq n.seq refl)) (eq-eqb g.id g.id refl)

  -- none that stood before is the next
  not_next : (d : ℕ) (r : Stamped Descriptor) → old.descriptor d ≡ Some r → is_next g n r ≡ true → ⊥
  not_next d r stands is =
      let parts = split ((r.stamp.epoch == n.epoch) && (r.stamp.seq == n.seq)) (r.value.id == g.id) is in
      let two = split (r.stamp.epoch == n.epoch) (r.stamp.seq == n.seq) parts.0 in
      let epoch : r.stamp.epoch ≡ n.epoch = eqb-true r.stamp.epoch n.epoch two.0 in
      let seq : r.stamp.seq ≡ n.seq = eqb-true r.stamp.seq n.seq two.1 in
      let same : r.stamp ≡ n = λ t. record { epoch = epoch t; seq = seq t } in
      not-itself n (ap (λ (x : Stamp). stamp_lt x n) (sym same) ∙ later d r stands (eqb-true r.value.id g.id parts.1))

  old_stays : (d : ℕ) (o : Option (Stamped Descriptor)) → old.descriptor d ≡ o → option_map (back g n) o ≡ o
  old_stays d None is = refl
  old_stays d (Some r) is = by_test (is_next g n r) refl
    where
      by_test : (t : Bool) → is_next g n r ≡ t → Some (back_if g.lvs t r) ≡ Some r
      by_test true test = absurd (not_next d r is test)
      by_test false test = refl

  next_back : back g n next ≡ record { stamp = n; value = g }
  next_back = ap (λ (t : Bool). back_if g.lvs t next) next_is

  pub mid_own : (d : ℕ) → (stood d ≡ old.descriptor d) ⊎ ((stood d ≡ Some (record { stamp = n; value = g })) × ((r : Stamped Descriptor) × (old.descriptor d ≡ Some r) × (r.value.id ≡ g.id)))
  mid_own d = ⊎_elim
      (λ same. inl (ap (option_map (back g n)) same ∙ old_stays d (old.descriptor d) refl))
      (λ (is : (shown d ≡ Some next) × IsTrue (passes (is_of g.id) (old.descriptor d))). inr (ap (option_map (back g n)) is.0 ∙ ap (λ (r : Stamped Descriptor). Some r) next_back, showed (old.descriptor d) refl is.1))
      (own d)
    where
      showed : (o : Option (Stamped Descriptor)) → old.descriptor d ≡ o → passes (is_of g.id) o ≡ true → (r : Stamped Descriptor) × (old.descriptor d ≡ Some r) × (r.value.id ≡ g.id)
      showed None is passed = absurd cc
      showed (Some r) is passed = (r, is, eqb-true r.value.id g.id passed)

  pub mid_kept : (facts : List Fact) → Kept old facts → Kept mid facts
  mid_kept facts kept = restamping_keeps old mid facts (record { stamp = n; value = g }) within (record { rest = refl; own = mid_own; later = later; found = found }) kept

  pub mid_reads : (b : Disks) (id : ℕ) (k : Descriptor) → ReadsGroup mid b id k → ReadsGroup old b id k
  mid_reads b id k reads = restamped_reads old stood (record { stamp = n; value = g }) mid_own later found within b id k reads

  pub mid_status : (b : Disks) (id : ℕ) (k : Descriptor) → status_by mid b id k ≡ status_by old b id k
  mid_status b id k = restamped_status old stood (record { stamp = n; value = g }) mid_own later found within b id k

  pub mid_members : (b : Disks) (id : ℕ) (k : Descriptor) → members_in mid b id k ≡ members_in old b id k
  mid_members b id k = restamped_members old stood (record { stamp = n; value = g }) mid_own later found within b id k

  -- ---- sets find the one where they would find the other

  among_back : (b : Disks) (id : ℕ) → descriptor_among mid b id ≡ option_map (back g n) (descriptor_among new b id)
  unfolding descriptor_among
  among_back b id = (λ t. newest_below (λ d. offered_back g n id (b d) (shown d) t) old.disks) ∙ newest_back g n (offered (is_of id) shown b) old.disks

  shows_same : (id d : ℕ) → passes (is_of id) (stood d) ≡ passes (is_of id) (shown d)
  shows_same id d = passes_back g n (is_of id) (λ v. refl) (shown d)

  voters_same : (b : Disks) (id : ℕ) → is_voter mid b id ≡ is_voter new b id
  unfolding is_voter
  voters_same b id =
      let room : (d : ℕ) → passes (has_room mid d) (descriptor_among mid b id) ≡ passes (has_room new d) (descriptor_among new b id) =
      λ d. ap (passes (has_room old d)) (among_back b id) ∙ passes_back g n (has_room old d) (λ v. refl) (descriptor_among new b id) in
      λ t d. b d && shows_same id d t && room d t

  quorum_same : (b : Disks) (id : ℕ) → has_quorum mid b id ≡ has_quorum new b id
  unfolding has_quorum
  quorum_same b id =
      (λ t. passes (λ x. is_enough_to_read x (votes_in x (voters_same b id t))) (among_back b id t))
      ∙ passes_back g n (λ x. is_enough_to_read x (votes_in x (is_voter new b id))) (λ v. refl) (descriptor_among new b id)

  -- a descriptor that is found now, and the one that would be found over the old volumes
  pub record Behind (b : Disks) (id : ℕ) (k : Descriptor) : Type 0 where
    pub was : Descriptor
    pub finds : Finds mid b id was
    pub how : (k ≡ was) ⊎ ((k ≡ h) × (was ≡ g) × (id ≡ g.id))
    pub others : List LvRow
    pub alike : k ≡ record was { lvs = others }

  pub behind : (b : Disks) (id : ℕ) (k : Descriptor) → Finds new b id k → Behind b id k
  unfolding descriptor_among
  behind b id k f =
      let one = is_one Descriptor (offered (is_of id) shown b) old.disks f.newest f.found in
      let from = is_offered (is_of id) shown b one.0 f.newest one.2 in
      let finds : Finds mid b id (back g n f.newest).value = record { quorum = quorum_same b id ∙ f.quorum; newest = back g n f.newest; found = among_back b id ∙ ap (option_map (back g n)) f.found; is = refl } in
      by_test (is_next g n f.newest) refl one.0 from.0 (eqb-true f.newest.value.id id from.1) finds
    where
      by_test : (t : Bool) → is_next g n f.newest ≡ t → (d : ℕ) → shown d ≡ Some f.newest → f.newest.value.id ≡ id → Finds mid b id (back_if g.lvs (is_next g n f.newest) f.newest).value → Behind b id k
      by_test false isnt d shows its finds =
          let e : (back_if g.lvs (is_next g n f.newest) f.newest).value ≡ f.newest.value = ap (λ (t : Bool). (back_if g.lvs t f.newest).value) isnt in
          let same : k ≡ f.newest.value = sym f.is in
          record { was = f.newest.value; finds = subst (λ (x : Descriptor). Finds mid b id x) e finds; how = inl same; others = f.newest.value.lvs; alike = same }
      by_test true is d shows its finds =
          let it : f.newest ≡ next = ⊎_elim
          (λ (same : shown d ≡ old.descriptor d). absurd (not_next d f.newest (sym same ∙ shows) is))
          (λ (put : (shown d ≡ Some next) × IsTrue (passes (is_of g.id) (old.descriptor d))). same_Some f.newest next (sym shows ∙ put.0))
          (own d) in
          let e : (back_if g.lvs (is_next g n f.newest) f.newest).value ≡ g = ap (λ (r : Stamped Descriptor). (back g n r).value) it ∙ ap (λ (r : Stamped Descriptor). r.value) next_back in
          let k_is : k ≡ h = sym f.is ∙ ap (λ (r : Stamped Descriptor). r.value) it in
          record { was = g; finds = subst (λ (x : Descriptor). Finds mid b id x) e finds; how = inr (k_is, refl, sym its ∙ ap (λ (r : Stamped Descriptor). r.value.id) it); others = rows; alike = k_is }

  -- members by the one are members by the other
  pub members_same : (set : Disks) (id : ℕ) (k was : Descriptor) (others : List LvRow) → k ≡ record was { lvs = others } → members_in new set id k ≡ members_in mid set id was
  members_same set id k was others alike = (λ t d. set d && sym (shows_same id d) t && has_room old d k) ∙ ap (λ (x : Descriptor). members_in mid set id x) alike

  pub status_same : (set : Disks) (id : ℕ) (k was : Descriptor) (others : List LvRow) → k ≡ record was { lvs = others } → status_by new set id k ≡ status_by mid set id was
  status_same set id k was others alike = let same = members_same set id k was others alike in λ t. newest_below (λ d. if same t d then if_passes (is_status_of id) (old.status d) else None) old.disks

  pub reads_behind : (b : Disks) (id : ℕ) (k : Descriptor) (reads : ReadsGroup new b id k) (it : Behind reads.found.0 id k) → ReadsGroup mid b id it.was
  reads_behind b id k reads it = record {
    found = (reads.found.0, it.finds);
    enough = subst (λ (set : Disks). CanRead it.was set) (members_same b id k it.was it.others it.alike) (subst (λ (x : Descriptor). CanRead x (members_in new b id k)) it.alike reads.enough);
  }

  -- and whatever was found is found, by the volumes that are shown
  pub still_found : (b : Disks) (id : ℕ) (k : Descriptor) → Finds mid b id k → (now : Descriptor) × Finds new b id now
  still_found b id k f = by_option (descriptor_among new b id) refl
    where
      by_option : (o : Option (Stamped Descriptor)) → descriptor_among new b id ≡ o → (now : Descriptor) × Finds new b id now
      by_option None is = absurd (let e : None ≡ Some f.newest = sym (among_back b id ∙ ap (option_map (back g n)) is) ∙ f.found in cc)
      by_option (Some m) is = (m.value, record { quorum = sym (quorum_same b id) ∙ f.quorum; newest = m; found = is; is = refl })
