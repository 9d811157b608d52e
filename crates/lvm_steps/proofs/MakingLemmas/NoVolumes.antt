-- What is kept where no disk shows a descriptor that names a volume.
use Rattle.std.proofs.Common.{◌≡◌, inl, inr, ⊎_elim, ℕ, ◌<◌, ◌≤◌, Bool, true, false, ◌&&◌, List, [], ◌∷◌, ◌++◌, length, Option, Some, None, refl, sym, ap, subst, ◌∙◌, eq-eqb}
use Rattle.std.specs.Prelude.{IsTrue, ◌==◌, not, if◌then◌else◌, find}
use Rattle.std.proofs.lemmas.Option.{same_Some}
use Rattle.std.proofs.lemmas.Bool.{eqb-true}
use Rattle.lvm_num.specs.declared.descriptor.PvRow.{PvRow}
use Rattle.lvm_num.specs.declared.descriptor.LvRow.{LvRow}
use Rattle.lvm_num.specs.declared.descriptor.Descriptor.{Descriptor}
use Rattle.lvm_num.specs.declared.status.Status.{Status}
use Rattle.lvm_num.specs.Disks.{Disks}
use Rattle.lvm_num.specs.Descriptor.{member_of, volume_of}
use Rattle.lvm_num.specs.Votes.{all_disks, votes_in, is_enough_to_read, CanRead}
use Rattle.lvm_num.specs.Record.{Stamped, newest_below}
use Rattle.lvm_num.proofs.VotesLemmas.{read_meets_read}
use Rattle.lvm_num.proofs.RecordLemmas.Newest.{is_one}
use Rattle.lvm_num.proofs.Booleans.{and_true}
use Rattle.lvm_vol.specs.declared.entry.Vol.TheVariants.{Disk}
use Rattle.lvm_vol.specs.Facts.{Fact, Cut}
use Rattle.lvm_vol.specs.May.{known, May}
use Rattle.lvm_vol.specs.Standing.{Standing, Settled, Shape, volumes_in}
use Rattle.lvm_kept.specs.Contents.{Contents}
use Rattle.lvm_kept.specs.Group.{if_passes, passes, is_of, has_room, descriptor_among, is_voter, has_quorum, Finds, IsFound, members_in, ReadsGroup, IsOneOf}
use Rattle.lvm_kept.specs.Kept.{StandsAs, HasStatus, RawAgrees, IsSettledIn, IsAvailable, Kept}
use Rattle.lvm_kept.specs.Torn.{DescriptorsChange}
use Rattle.lvm_kept.proofs.CommittedLemmas.Finding.{offered, is_offered}
use Rattle.lvm_kept.proofs.ChangesLemmas.Changing.{notes_keep}
use Rattle.lvm_kept.proofs.ChangesLemmas.Restating.{statuses_keep}
use Rattle.lvm_kept.proofs.ChangesLemmas.Entries.{stands_unfound}
use Rattle.lvm_steps.specs.Making.{NamesNoVolume, MayMake, NotesMayChange, StatusesMayChange, DescriptorsMayChange}

-- ---- lists without volumes

pub no_row : (rows : List LvRow) (row : LvRow) → rows ≡ [] → IsOneOf rows row → ⊥
no_row [] row empty is = is
no_row (r ∷ rows) row empty is = cc

pub no_need : (rows : List LvRow) (s : Option (Stamped Status)) → rows ≡ [] → HasStatus rows s
no_need [] s empty = tt
no_need (r ∷ rows) s empty = absurd cc

no_volume : (g : Descriptor) (lv : ℕ) → g.lvs ≡ [] → volume_of g lv ≡ None
no_volume g lv empty = ap (λ (rows : List LvRow). find (λ (row : LvRow). row.number == lv) rows) empty

settled_is_there : (mib : ℕ) (shape : Option Shape) (o : Option LvRow) → o ≡ None → StandsAs mib Settled shape o → ⊥
settled_is_there mib shape None none stands = stands
settled_is_there mib shape (Some row) none stands = absurd cc

-- ---- what is found names no volume

module _ (c : Contents) (empty : NamesNoVolume c) where
  pub found_empty : (disks : Disks) (id : ℕ) (g : Descriptor) → Finds c disks id g → g.lvs ≡ []
  unfolding descriptor_among
  found_empty disks id g f =
      let one = is_one Descriptor (offered (is_of id) c.descriptor disks) c.disks f.newest f.found in
      let from = is_offered (is_of id) c.descriptor disks one.0 f.newest one.2 in
      ap (λ (h : Descriptor). h.lvs) (sym f.is) ∙ empty one.0 f.newest from.0

  is_found_empty : (id : ℕ) (g : Descriptor) → IsFound c id g → g.lvs ≡ []
  is_found_empty id g is = found_empty is.0 id g is.1

  -- so no volume is settled by a history that is kept
  pub unsettled : (facts : List Fact) → Kept c facts → (lv : ℕ) → IsSettledIn facts lv → ⊥
  unsettled facts kept lv settled =
      let a : IsAvailable c facts = kept.agrees.available lv settled in
      let stands : StandsAs a.group.mib (volumes_in facts lv).standing (volumes_in facts lv).shape (volume_of a.group lv) = kept.agrees.volumes all_disks a.id a.group a.found lv in
      settled_is_there a.group.mib (volumes_in facts lv).shape (volume_of a.group lv) (no_volume a.group lv (found_empty all_disks a.id a.group a.found))
      (subst (λ (s : Standing). StandsAs a.group.mib s (volumes_in facts lv).shape (volume_of a.group lv)) settled stands)

-- What is left to show where no volume is named.
pub record Remains (c : Contents) (facts : List Fact) : Type 0 where
  pub unsettled : (lv : ℕ) → IsSettledIn facts lv → ⊥
  pub raw : RawAgrees c facts
  pub common : (a b : Disks) (id : ℕ) (g h : Descriptor) → ReadsGroup c a id g → ReadsGroup c b id h → (d : ℕ) × IsTrue (members_in c a id g d) × IsTrue (members_in c b id h d)
  pub size : (id : ℕ) (g h : Descriptor) → IsFound c id g → IsFound c id h → g.mib ≡ h.mib
  pub partitions : (id : ℕ) (g h : Descriptor) → IsFound c id g → IsFound c id h → (d : ℕ) (p q : PvRow) → member_of g d ≡ Some p → member_of h d ≡ Some q → p.pps ≡ q.pps
  pub descriptors : (d e : ℕ) (r s : Stamped Descriptor) → c.descriptor d ≡ Some r → c.descriptor e ≡ Some s → r.value.id ≡ s.value.id → r.stamp ≡ s.stamp → r ≡ s
  pub statuses : (d e : ℕ) (r s : Stamped Status) → c.status d ≡ Some r → c.status e ≡ Some s → r.value.id ≡ s.value.id → r.stamp ≡ s.stamp → r ≡ s

pub empty_kept : (c : Contents) (facts : List Fact) → NamesNoVolume c → Remains c facts → Kept c facts
empty_kept c facts empty rest = record {
  agrees = record {
    volumes = λ disks id g f lv. stands_unfound g.mib (volumes_in facts lv).standing (volumes_in facts lv).shape (volume_of g lv) (no_volume g lv (found_empty c empty disks id g f)) (rest.unsettled lv);
    status = λ disks id g f. no_need g.lvs _ (found_empty c empty disks id g f);
    copies = λ disks id g f row lp b one inside. absurd (no_row g.lvs row (found_empty c empty disks id g f) one);
    raw = rest.raw;
    available = λ lv settled. absurd (rest.unsettled lv settled);
  };
  lasting = record {
    common = rest.common;
    status = λ b id h k r is. no_need k.lvs _ (is_found_empty c empty id k is);
    across = λ b id h k r is row lp n one inside. absurd (no_row k.lvs row (is_found_empty c empty id k is) one);
    some = λ b id h k r is row lp one inside. absurd (no_row k.lvs row (is_found_empty c empty id k is) one);
    size = rest.size;
    partitions = rest.partitions;
    descriptors = rest.descriptors;
    statuses = rest.statuses;
  };
}

-- ---- notes and statuses

pub notes_may_change : NotesMayChange
notes_may_change group old new facts may rest kept = notes_keep old new facts (record {
  rest = rest;
  copies = λ disks id g f row lp b one inside. absurd (no_row g.lvs row (found_empty old may.empty disks id g f) one);
  across = λ b id h k r is row lp n one inside. absurd (no_row k.lvs row (is_found_empty old may.empty id k is) one);
}) kept

pub statuses_may_change : StatusesMayChange
statuses_may_change group targets next old new facts may unused change kept = statuses_keep old new facts next (record {
  rest = change.rest;
  own = λ d. ⊎_elim (λ same. inl same) (λ is. inr is.1) (change.own d);
  stamp = λ d r is ids stamps. absurd (unused d r is ids stamps);
  found = λ b id h r. inr (inr (λ k is. is_found_empty old may.empty id k is));
}) kept

-- ---- descriptors

module _ (old new : Contents) (group : Descriptor) (targets : Disks) (next : Stamped Descriptor) (may : MayMake old group) (is : next.value ≡ group) (change : DescriptorsChange targets next old new) where
  abbrev v : ℕ
  v = next.value.id

  fresh : (d : ℕ) (r : Stamped Descriptor) → old.descriptor d ≡ Some r → r.value.id ≡ v → ⊥
  fresh d r shows same = may.new_id d r shows (same ∙ ap (λ (g : Descriptor). g.id) is)

  abbrev shown : ℕ → Option (Stamped Descriptor)
  shown = new.descriptor

  -- the disks of a set that don't show the new group
  abbrev others : Disks → Disks
  others disks d = disks d && not (passes (is_of v) (shown d))

  isnt : (id : ℕ) → (v ≡ id → ⊥) → (v == id) ≡ false
  isnt id differ = by_test (v == id) refl
    where
      by_test : (t : Bool) → (v == id) ≡ t → t ≡ false
      by_test true same = absurd (differ (eqb-true v id same))
      by_test false same = refl

  -- a disk that shows what it showed doesn't show the new group
  not_new : (d : ℕ) (o : Option (Stamped Descriptor)) → old.descriptor d ≡ o → passes (is_of v) o ≡ false
  not_new d None stood = refl
  not_new d (Some r) stood = by_test (r.value.id == v) refl
    where
      by_test : (t : Bool) → (r.value.id == v) ≡ t → t ≡ false
      by_test true same = absurd (fresh d r stood (eqb-true r.value.id v same))
      by_test false same = refl

  -- what a disk says of another group, it said as one that doesn't show the new one
  said : (X : Type 0) (none : X) (say : Option (Stamped Descriptor) → X) (disks : Disks) (id : ℕ) → (say (Some next) ≡ none) → (d : ℕ)
      → (if disks d then say (shown d) else none) ≡ (if others disks d then say (old.descriptor d) else none)
  said X none say disks id silent d = ⊎_elim
      (λ (same : shown d ≡ old.descriptor d). by_old (not_new d (old.descriptor d) refl) same)
      (λ (put : IsTrue (targets d) × (shown d ≡ Some next)). by_next (disks d) put.1)
      (change.own d)
    where
      by_old : passes (is_of v) (old.descriptor d) ≡ false → shown d ≡ old.descriptor d → (if disks d then say (shown d) else none) ≡ (if disks d && not (passes (is_of v) (shown d)) then say (old.descriptor d) else none)
      by_old quiet same =
          ap (λ (o : Option (Stamped Descriptor)). if disks d then say o else none) same
          ∙ ap (λ (t : Bool). if t then say (old.descriptor d) else none) (sym (ap (λ (o : Option (Stamped Descriptor)). disks d && not (passes (is_of v) o)) same ∙ ap (λ (t : Bool). disks d && not t) quiet ∙ and_true (disks d)))

      by_next : (t : Bool) → shown d ≡ Some next → (if t then say (shown d) else none) ≡ (if t && not (passes (is_of v) (shown d)) then say (old.descriptor d) else none)
      by_next false put = refl
      by_next true put = ap say put ∙ silent ∙ ap (λ (t : Bool). if t then say (old.descriptor d) else none) (sym (ap (λ (o : Option (Stamped Descriptor)). not (passes (is_of v) o)) put ∙ ap not (eq-eqb v v refl)))

  module _ (id : ℕ) (differ : v ≡ id → ⊥) where
    silent : if_passes (is_of id) (Some next) ≡ None
    silent = ap (λ (t : Bool). if t then Some next else None) (isnt id differ)

    same_count : new.disks ≡ old.disks
    same_count = ap (λ (c : Contents). c.disks) change.rest

    newest_same : (disks : Disks) → descriptor_among new disks id ≡ descriptor_among old (others disks) id
    unfolding descriptor_among
    newest_same disks = λ t. newest_below (λ d. said (Option (Stamped Descriptor)) None (if_passes (is_of id)) disks id silent d t) (same_count t)

    is_passing : (disks : Disks) (d : ℕ) → (disks d && passes (is_of id) (shown d)) ≡ (others disks d && passes (is_of id) (old.descriptor d))
    is_passing disks d = as_if (disks d) _ ∙ said Bool false (passes (is_of id)) disks id (isnt id differ) d ∙ sym (as_if (others disks d) _)
      where
        as_if : (a b : Bool) → (a && b) ≡ (if a then b else false)
        as_if true b = refl
        as_if false b = refl

    room_same : (d : ℕ) (g : Descriptor) → has_room new d g ≡ has_room old d g
    room_same d g = ap (λ (c : Contents). has_room c d g) change.rest

    voters_same : (disks : Disks) → is_voter new disks id ≡ is_voter old (others disks) id
    unfolding is_voter
    voters_same disks = λ t d. is_passing disks d t && passes (λ g. room_same d g t) (newest_same disks t)

    quorum_same : (disks : Disks) → has_quorum new disks id ≡ has_quorum old (others disks) id
    unfolding has_quorum
    quorum_same disks = λ t. passes (λ g. is_enough_to_read g (votes_in g (voters_same disks t))) (newest_same disks t)

    pub found_before : (disks : Disks) (g : Descriptor) → Finds new disks id g → Finds old (others disks) id g
    found_before disks g f = record { quorum = sym (quorum_same disks) ∙ f.quorum; newest = f.newest; found = sym (newest_same disks) ∙ f.found; is = f.is }

    members_same : (disks : Disks) (g : Descriptor) → members_in new disks id g ≡ members_in old (others disks) id g
    members_same disks g = λ t d. is_passing disks d t && room_same d g t

    is_found_before : (g : Descriptor) → IsFound new id g → IsFound old id g
    is_found_before g f = (others f.0, found_before f.0 g f.1)

    reads_before : (disks : Disks) (g : Descriptor) → ReadsGroup new disks id g → ReadsGroup old (others disks) id g
    reads_before disks g r = record { found = is_found_before g r.found; enough = subst (λ (set : Disks). CanRead g set) (members_same disks g) r.enough }

  -- of the new group only the new descriptor is found
  found_new : (disks : Disks) (g : Descriptor) → Finds new disks v g → g ≡ group
  unfolding descriptor_among
  found_new disks g f =
      let one = is_one Descriptor (offered (is_of v) shown disks) new.disks f.newest f.found in
      let from = is_offered (is_of v) shown disks one.0 f.newest one.2 in
      let its : f.newest.value.id ≡ v = eqb-true f.newest.value.id v from.1 in
      ⊎_elim
      (λ (same : shown one.0 ≡ old.descriptor one.0). absurd (fresh one.0 f.newest (sym same ∙ from.0) its))
      (λ (put : IsTrue (targets one.0) × (shown one.0 ≡ Some next)). sym f.is ∙ ap (λ (r : Stamped Descriptor). r.value) (same_Some f.newest next (sym from.0 ∙ put.1)) ∙ is)
      (change.own one.0)

  -- a claim of two that are found, of another group or of the new one
  of_both : (id : ℕ) (P : Type 0) → ((v ≡ id → ⊥) → P) → (v ≡ id → P) → P
  of_both id P other its = by_test (v == id) refl
    where
      by_test : (t : Bool) → (v == id) ≡ t → P
      by_test true same = its (eqb-true v id same)
      by_test false same = other (λ e. differs (eq-eqb v id e) same)
        where
          differs : (v == id) ≡ true → (v == id) ≡ false → ⊥
          differs p q = absurd cc

  pub names_none : NamesNoVolume new
  names_none d r shows = ⊎_elim
      (λ (same : shown d ≡ old.descriptor d). may.empty d r (sym same ∙ shows))
      (λ (put : IsTrue (targets d) × (shown d ≡ Some next)). ap (λ (x : Stamped Descriptor). x.value.lvs) (same_Some r next (sym shows ∙ put.1)) ∙ ap (λ (g : Descriptor). g.lvs) is ∙ may.no_volume)
      (change.own d)

  module _ (facts : List Fact) (kept : Kept old facts) where
    common : (a b : Disks) (id : ℕ) (g h : Descriptor) → ReadsGroup new a id g → ReadsGroup new b id h → (d : ℕ) × IsTrue (members_in new a id g d) × IsTrue (members_in new b id h d)
    common a b id g h r s = of_both id ((d : ℕ) × IsTrue (members_in new a id g d) × IsTrue (members_in new b id h d))
        (λ differ.
        let one = kept.lasting.common (others a) (others b) id g h (reads_before id differ a g r) (reads_before id differ b h s) in
        (one.0, subst (λ (set : Disks). IsTrue (set one.0)) (sym (members_same id differ a g)) one.1, subst (λ (set : Disks). IsTrue (set one.0)) (sym (members_same id differ b h)) one.2))
        (λ its.
        let g_is : g ≡ group = found_new r.found.0 g (subst (λ (n : ℕ). Finds new r.found.0 n g) (sym its) r.found.1) in
        let h_is : h ≡ group = found_new s.found.0 h (subst (λ (n : ℕ). Finds new s.found.0 n h) (sym its) s.found.1) in
        let same : h ≡ g = h_is ∙ sym g_is in
        let both = read_meets_read g (members_in new a id g) (members_in new b id h) (subst (λ (k : Descriptor). 1 ≤ length k.pvs) (sym g_is) may.a_member) r.enough (subst (λ (k : Descriptor). CanRead k (members_in new b id h)) same s.enough) in
        (both.0, both.2, both.3))

    one_of : (d e : ℕ) (r s : Stamped Descriptor) → shown d ≡ Some r → shown e ≡ Some s → r.value.id ≡ s.value.id → r.stamp ≡ s.stamp → r ≡ s
    one_of d e r s shows also ids stamps = ⊎_elim
        (λ (old_r : shown d ≡ old.descriptor d). ⊎_elim
        (λ (old_s : shown e ≡ old.descriptor e). kept.lasting.descriptors d e r s (sym old_r ∙ shows) (sym old_s ∙ also) ids stamps)
        (λ (new_s : IsTrue (targets e) × (shown e ≡ Some next)). absurd (fresh d r (sym old_r ∙ shows) (ids ∙ ap (λ (x : Stamped Descriptor). x.value.id) (same_Some s next (sym also ∙ new_s.1)))))
        (change.own e))
        (λ (new_r : IsTrue (targets d) × (shown d ≡ Some next)). let same : r ≡ next = same_Some r next (sym shows ∙ new_r.1) in ⊎_elim
        (λ (old_s : shown e ≡ old.descriptor e). absurd (fresh e s (sym old_s ∙ also) (sym ids ∙ ap (λ (x : Stamped Descriptor). x.value.id) same)))
        (λ (new_s : IsTrue (targets e) × (shown e ≡ Some next)). same ∙ sym (same_Some s next (sym also ∙ new_s.1)))
        (change.own e))
        (change.own d)

    still_none : (d : ℕ) → shown d ≡ None → old.descriptor d ≡ None
    still_none d none = ⊎_elim (λ (same : shown d ≡ old.descriptor d). sym same ∙ none) (λ (put : IsTrue (targets d) × (shown d ≡ Some next)). absurd (no_some (sym put.1 ∙ none))) (change.own d)
      where
        no_some : Some next ≡ None → ⊥
        no_some e = absurd cc

    pub made_kept : Kept new facts
    made_kept = empty_kept new facts names_none (record {
      unsettled = unsettled old may.empty facts kept;
      raw = λ d b there none low high. subst (λ (c : Contents). May (known (facts ++ Cut ∷ []) (Disk d) b) (c.block d b)) (sym change.rest)
          (kept.agrees.raw d b (subst (λ (c : Contents). d < c.disks) change.rest there) (still_none d none) low (subst (λ (c : Contents). b < c.size d) change.rest high));
      common = common;
      size = λ id g h f k. of_both id (g.mib ≡ h.mib) (λ differ. kept.lasting.size id g h (is_found_before id differ g f) (is_found_before id differ h k))
          (λ its. ap (λ (x : Descriptor). x.mib) (found_new f.0 g (subst (λ (n : ℕ). Finds new f.0 n g) (sym its) f.1) ∙ sym (found_new k.0 h (subst (λ (n : ℕ). Finds new k.0 n h) (sym its) k.1))));
      partitions = λ id g h f k d p q is_p is_q. of_both id (p.pps ≡ q.pps) (λ differ. kept.lasting.partitions id g h (is_found_before id differ g f) (is_found_before id differ h k) d p q is_p is_q)
          (λ its. let same : g ≡ h = found_new f.0 g (subst (λ (n : ℕ). Finds new f.0 n g) (sym its) f.1) ∙ sym (found_new k.0 h (subst (λ (n : ℕ). Finds new k.0 n h) (sym its) k.1)) in
          ap (λ (x : PvRow). x.pps) (same_Some p q (sym is_p ∙ ap (λ (x : Descriptor). member_of x d) same ∙ is_q)));
      descriptors = one_of;
      statuses = λ d e r s shows also. kept.lasting.statuses d e r s (subst (λ (c : Contents). c.status d ≡ Some r) change.rest shows) (subst (λ (c : Contents). c.status e ≡ Some s) change.rest also);
    })

pub descriptors_may_change : DescriptorsMayChange
descriptors_may_change group targets next old new facts may is change kept = made_kept old new group targets next may is change facts kept
