-- What disks hold while a group's rule of votes changes, or members leave it.
use Rattle.std.proofs.Common.{◌≡◌, ◌⊎◌, inl, inr, ⊎_elim, ℕ, ◌≤◌, Bool, true, false, ◌&&◌, ◌||◌, List, [], ◌∷◌, length, Option, Some, Ok, refl, sym, ap, subst, ◌∙◌, eq-eqb, arith}
use Rattle.std.specs.Prelude.{◌==◌, IsTrue, not, if◌then◌else◌, nat_le, find}
use Rattle.std.specs.List.{list_any}
use Rattle.std.proofs.lemmas.Bool.{and_parts}
use Rattle.std.proofs.lemmas.Bool.Decides.{nat_tests}
use Rattle.lvm_num.specs.declared.record.Kind.TheVariants as kind
use Rattle.lvm_num.specs.declared.record.Stamp.{Stamp}
use Rattle.lvm_num.specs.declared.record.Framed.{Framed}
use Rattle.lvm_num.specs.declared.descriptor.PvRow.{PvRow}
use Rattle.lvm_num.specs.declared.descriptor.Descriptor.{Descriptor}
use Rattle.lvm_num.specs.declared.status.Status.{Status}
use Rattle.lvm_num.specs.Disks.{Disks}
use Rattle.lvm_num.specs.Descriptor.{is_member, member_of}
use Rattle.lvm_num.specs.DescriptorBytes.{descriptor_of}
use Rattle.lvm_num.specs.StatusBytes.{status_of}
use Rattle.lvm_num.specs.Status.{calls_stale, calls_dirty}
use Rattle.lvm_num.specs.Record.{Frames, Stamped, stamp_lt}
use Rattle.lvm_num.specs.Votes.{votes_in, all_disks, CanRead, CanWrite}
use Rattle.lvm_num.proofs.Booleans.{place_below, place_turns}
use Rattle.lvm_num.proofs.VotesLemmas.{read_meets_write, more_have_more, more_is_enough}
use Rattle.lvm_rec.specs.Slots.{slot_for, IsTornWrite, BothBefore}
use Rattle.lvm_vol.specs.Facts.{Fact}
use Rattle.lvm_disk.specs.Device.{Image, IsWholeImage}
use Rattle.lvm_disk.specs.passed.Num.{sectors_needed}
use Rattle.lvm_kept.specs.Contents.{Contents, contents_of, descriptor_on}
use Rattle.lvm_kept.specs.Group.{passes, is_of, has_room, Finds, IsFound, members_in}
use Rattle.lvm_kept.specs.Kept.{Kept}
use Rattle.lvm_kept.specs.Plans.{ChangesBy}
use Rattle.lvm_kept.specs.Torn.{RecordWrite, on_disk, IsOfRecord, written as as_read, DescriptorsChange}
use Rattle.lvm_kept.proofs.PlacesLemmas.{room-same}
use Rattle.lvm_kept.proofs.CommittedLemmas.Finding.{images_within, finding_reads}
use Rattle.lvm_kept.proofs.TornLemmas.Records.{wider, whole_is_new}
use Rattle.lvm_rec.specs.declared.homes.Homes.{Homes}
use Rattle.lvm_rec.specs.Homes.{second_slots, next_slot}
use Rattle.lvm_write.specs.Written.{write_of}
use Rattle.lvm_steps.specs.Laws.{IsNoLater}
use Rattle.lvm_steps.proofs.GroupLemmas.Members.{member_of_parts}
use Rattle.lvm_steps.proofs.LawsLemmas.Records.{later_may_go}
use Rattle.lvm_steps.proofs.LawsLemmas.Stamps.{later_is_after_too}
use Rattle.lvm_steps.proofs.LawsLemmas.Writes.{record_is_before_next}
use Rattle.lvm_commit.specs.Committed.{next_stamp, ShowsCommitted, HoldsCommitted}
use Rattle.lvm_commit.specs.LawsOfWrites.{StandsWritten}
use Rattle.lvm_commit.proofs.LawsLemmas.Found.{shows_group}
use Rattle.lvm_commit.proofs.SlotsLemmas.{other_kind, turned}
use Rattle.lvm_commit.proofs.LawsOfFindingLemmas.NoMore.{descriptor_finds_no_more}
use Rattle.lvm_commit.proofs.LawsOfVolumesLemmas.Volumes.{next_is_later}
use Rattle.lvm_commit.proofs.LawsOfWritesLemmas.Writes.{descriptors_change, descriptor_may_go}
use Rattle.lvm_change_votes.specs.Meeting.{disks_of}
use Rattle.lvm_change_votes.proofs.MeetingLemmas.{same_members_meet}
use Rattle.lvm_change_votes.proofs.ReachingLemmas.{reaches_next, all_read_off}
use Rattle.lvm_change_laws.specs.Turning.{AreTwo, ReadsTwo}
use Rattle.lvm_change_laws.specs.Rule.{MayChange, RuleIsChange, IsOpenTo, MayTurnTo, members_among, staying, unspared, ChangeOpens, StatusesLeaveOpen, RerowedMayFollow, TurnWriteKeeps, TurnIsHeld, IsShownOn, TurnIsShown}
use Rattle.lvm_change_laws.proofs.UnsparedLemmas.{unspared_any, unspared_found, unspared_row}
use Rattle.lvm_change_laws.proofs.StayingLemmas.{all_stay, staying_any, staying_member, staying_row}
use Rattle.lvm_change_laws.proofs.TwoLemmas.{valid_are_two}
use Rattle.lvm_change_laws.proofs.TurningLemmas.{turn_keeps, reads_are_two}
use Rattle.lvm_change_laws.proofs.CommittedLemmas.{committed_serves, turn_is_committed}

-- ---- when it may

pub rule_is_change : RuleIsChange
rule_is_change group next there may = record {
  valid = may.valid;
  valid_next = may.valid_next;
  differs = may.differs ∙ ap (λ (rows : List PvRow). record group { pvs = rows; quorum = next.quorum; even = next.even; big = next.big }) (sym same_rows);
  members = ap unspared same_rows ∙ sym (all_stay (unspared group.pvs));
  near = same_members_meet group next (record { members = sym (ap disks_of may.differs); has = record { some = may.valid.head.a_member; apart = may.valid.members.disks_differ } });
  enough = may.enough;
  enough_too = may.enough_too;
  found = may.found;
}
  where
    same_rows : next.pvs ≡ group.pvs
    same_rows = ap (λ (g : Descriptor). g.pvs) may.differs

module _ (leaves : Disks) (group next : Descriptor) (there : Disks) (may : MayChange leaves group next there) where
  -- a disk is a member by the next one just where it was and doesn't leave
  pub member_next : (d : ℕ) → is_member next d ≡ (is_member group d && not (leaves d))
  member_next d =
      sym (unspared_any at_d (λ row. refl) next.pvs) ∙ ap (list_any at_d) may.members ∙ staying_member leaves d (unspared group.pvs) ∙ ap (λ (b : Bool). b && not (leaves d)) (unspared_any at_d (λ row. refl) group.pvs)
    where
      at_d : PvRow → Bool
      at_d row = row.disk == d

  pub was_member : (d : ℕ) → IsTrue (is_member next d) → IsTrue (is_member group d)
  was_member d is = (and_parts (is_member group d) (not (leaves d)) (sym (member_next d) ∙ is)).0

  pub are_two : AreTwo group next
  are_two = valid_are_two group next (record {
    valid_g = may.valid;
    valid_h = may.valid_next;
    id = sym (ap (λ (g : Descriptor). g.id) may.differs);
    size = sym (ap (λ (g : Descriptor). g.mib) may.differs);
    volumes = sym (ap (λ (g : Descriptor). g.lvs) may.differs);
    near = may.near;
    partitions = λ d p q is also.
        let stays : row_at d (staying leaves (unspared group.pvs)) ≡ Some (unspared_row q) = ap (row_at d) (sym may.members) ∙ unspared_found d next.pvs q also in
        ap (λ (row : PvRow). row.pps) (same_row (unspared_row p) (unspared_row q) (sym (unspared_found d group.pvs p is) ∙ staying_row leaves d (unspared group.pvs) (unspared_row q) stays));
  })
    where
      row_at : ℕ → List PvRow → Option PvRow
      row_at d rows = find (λ (row : PvRow). row.disk == d) rows

      same_row : (p q : PvRow) → Some p ≡ Some q → p ≡ q
      same_row p q e = cc

  room_next : (c : Contents) (d : ℕ) → has_room c d next ≡ (has_room c d group && not (leaves d))
  room_next c d =
      ap (has_room c d) may.differs ∙ sym (unspared_any fits (λ row. refl) next.pvs) ∙ ap (list_any fits) may.members ∙ staying_any leaves large d (unspared group.pvs)
      ∙ ap (λ (b : Bool). b && not (leaves d)) (unspared_any fits (λ row. refl) group.pvs)
    where
      large : PvRow → Bool
      large row = nat_le (sectors_needed group.mib row.pps) (c.size d)

      fits : PvRow → Bool
      fits row = row.disk == d && large row

  has_room_still : (c : Contents) (d : ℕ) → IsTrue (has_room c d group) → IsTrue (is_member next d) → IsTrue (has_room c d next)
  has_room_still c d room member = room_next c d ∙ both (has_room c d group) (not (leaves d)) room (and_parts (is_member group d) (not (leaves d)) (sym (member_next d) ∙ member)).1
    where
      both : (a b : Bool) → a ≡ true → b ≡ true → a && b ≡ true
      both true true one two = refl
      both true false one two = absurd cc
      both false b one two = absurd cc

  module _ (c : Contents) (status : Status) (shows : ShowsCommitted c group status there) where
    abbrev set : Disks
    set = members_in c all_disks group.id group

    abbrev narrowed : Disks
    narrowed = members_in c all_disks group.id next

    within : (d : ℕ) → IsTrue (there d) → IsTrue (set d)
    within d is = member_of_parts c all_disks group.id group d refl (shows_group c group status there shows d is) (shows.room d is)

    narrow : (d : ℕ) → IsTrue (is_member next d) → IsTrue (set d) → IsTrue (narrowed d)
    narrow d member is =
        let two = and_parts (passes (is_of group.id) (c.descriptor d)) (has_room c d group) is in
        member_of_parts c all_disks group.id next d refl two.0 (has_room_still c d two.1 member)

    some : 1 ≤ length next.pvs
    some = may.valid_next.head.a_member

    writes : CanWrite next set
    writes = more_is_enough.write next (votes_in next there) (votes_in next set) (more_have_more next there set (λ d member is. within d is)) may.enough_too

    reads_next : CanRead next narrowed
    reads_next = ⊎_elim
        (λ (on : next.quorum ≡ true). reached (inl on))
        (λ (rest : (group.quorum ≡ false) ⊎ ((d : ℕ) → IsTrue (is_member next d) → IsTrue (there d))). ⊎_elim
        (λ (off : group.quorum ≡ false). reached (inr off))
        (λ (all : (d : ℕ) → IsTrue (is_member next d) → IsTrue (there d)). all_read_off next narrowed some (λ d member. narrow d member (within d (all d member))))
        rest)
        may.found
      where
        reached : (next.quorum ≡ true) ⊎ (group.quorum ≡ false) → CanRead next narrowed
        reached on = more_is_enough.read next (votes_in next set) (votes_in next narrowed) (more_have_more next set narrowed (λ d member is. narrow d member is)) (reaches_next group next set (record {
          some = some;
          reads = (finding_reads c all_disks group.id group shows.found).reads.enough;
          writes = writes;
          fresh = λ d member. inl (was_member d member);
          on = on;
        }))

pub change_opens : ChangeOpens
change_opens c leaves group next status there may shows = record {
  two = are_two leaves group next there may;
  reads = reads_next leaves group next there may c status shows;
  room = λ d is member. has_room_still leaves group next there may c d (shows.room d is) member;
}

pub statuses_leave_open : StatusesLeaveOpen
statuses_leave_open old new group next there written same within opened = subst (λ (c : Contents). IsOpenTo c group next written) (sym same) (record {
  two = opened.two;
  reads = opened.reads;
  room = λ d is member. opened.room d (within d is) member;
})

-- ---- its status

a_member : (rows : List PvRow) (d : ℕ) (row : PvRow) → find (λ (r : PvRow). r.disk == d) rows ≡ Some row → list_any (λ (r : PvRow). r.disk == d) rows ≡ true
a_member [] d row is = absurd cc
a_member (x ∷ xs) d row is = by (x.disk == d) (a_member xs d row) is
  where
    by : (t : Bool) → (find (λ (r : PvRow). r.disk == d) xs ≡ Some row → list_any (λ (r : PvRow). r.disk == d) xs ≡ true) → (if t then Some x else find (λ (r : PvRow). r.disk == d) xs) ≡ Some row
        → t || list_any (λ (r : PvRow). r.disk == d) xs ≡ true
    by true rest found = refl
    by false rest found = rest found

pub rerowed_may_follow : RerowedMayFollow
rerowed_may_follow c group next was told two rerowed = record {
  stale = λ row lp p one copy stale.
      let at = two.places row lp p one copy in
      rerowed.stale p ∙ ap (λ (b : Bool). b && calls_stale was p) (a_member next.pvs p.disk at.1 at.3) ∙ stale;
  added = λ row lp p one inside copy stale. inl (and_parts (is_member next p.disk) (calls_stale was p) (sym (rerowed.stale p) ∙ stale)).1;
  dirty = λ row one passive dirty. inl (ap (λ (numbers : List ℕ). calls_dirty (record was { dirty = numbers }) row.number) rerowed.dirty ∙ dirty);
}

-- ---- the next descriptor is written

module _ (group next : Descriptor) (status : Status) (there : Disks) (stamp : Stamp) (homes : Homes) (framed : Framed) (old : Image) (whole : IsWholeImage old) (holds : HoldsCommitted old group status there stamp homes)
    (may : MayTurnTo (contents_of old) group next there) (frames : Frames kind.Descriptor framed) (reads : descriptor_of framed.content ≡ Ok next) (later : IsNoLater (next_stamp stamp) framed.stamp)
    (new : Image) (by : ChangesBy (IsOfRecord (write_of kind.Descriptor framed there homes)) old new) where
  abbrev w : RecordWrite
  w = write_of kind.Descriptor framed there homes

  abbrev after : Stamped Descriptor
  after = as_read w next

  abbrev shows : ShowsCommitted (contents_of old) group status there
  shows = holds.shows

  changed : DescriptorsChange there after (contents_of old) (contents_of new)
  changed = descriptors_change group next status there stamp homes framed old whole holds frames reads later new by

  is_later : (d : ℕ) (r : Stamped Descriptor) → (contents_of old).descriptor d ≡ Some r → stamp_lt r.stamp framed.stamp ≡ true
  is_later d r shown = (next_is_later old group status there stamp framed.stamp homes whole holds later).descriptors d r shown

  -- none shows a later one then
  latest : (d : ℕ) (r : Stamped Descriptor) → (contents_of new).descriptor d ≡ Some r → r.value.id ≡ group.id → (stamp_lt r.stamp after.stamp ≡ true) ⊎ (r ≡ after)
  latest d r shown its = ⊎_elim
      (λ (same : (contents_of new).descriptor d ≡ (contents_of old).descriptor d). inl (is_later d r (sym same ∙ shown)))
      (λ (is : IsTrue (there d) × ((contents_of new).descriptor d ≡ Some after)). inr (same_record r after (sym shown ∙ is.1)))
      (changed.own d)
    where
      same_record : (a b : Stamped Descriptor) → Some a ≡ Some b → a ≡ b
      same_record a b e = cc

  meets : (g : Descriptor) (set : Disks) → CanWrite g set → (a : Disks) → CanRead g a → (d : ℕ) × IsTrue (a d) × IsTrue (set d)
  meets g set enough a can = let m = read_meets_write g a set can enough in (m.0, m.2, m.3)

  statuses_same : (contents_of new).status ≡ (contents_of old).status
  statuses_same = ap (λ (c : Contents). c.status) changed.rest

  reads_two : ReadsTwo (contents_of new) group next shows.stands shows.stands
  reads_two = reads_are_two (contents_of new) group next there shows.stands shows.stands (images_within new)
      (record {
        own = ap (λ (s : Status). s.id) shows.committed ∙ shows.own;
        next_own = ap (λ (s : Status). s.id) shows.committed ∙ shows.own;
        later = inl refl;
        have = λ d is. inl (ap (λ (s : ℕ → Option (Stamped Status)). s d) statuses_same ∙ shows.stated d is);
        newest = λ d r room shown its. ⊎_elim (λ low. inl low) (λ same. inr (inl same)) (shows.last d r (sym (ap (λ (s : ℕ → Option (Stamped Status)). s d) statuses_same) ∙ shown) its);
      })
      (meets group there may.enough) (meets next there may.enough_too)

  -- the members by the next descriptor stay
  still : (d : ℕ) → passes (is_of group.id) ((contents_of new).descriptor d) ≡ passes (is_of group.id) ((contents_of old).descriptor d)
  still d = ⊎_elim
      (λ (same : (contents_of new).descriptor d ≡ (contents_of old).descriptor d). ap (passes (is_of group.id)) same)
      (λ (is : IsTrue (there d) × ((contents_of new).descriptor d ≡ Some after)).
      ap (passes (is_of group.id)) is.1 ∙ eq-eqb next.id group.id (sym may.opened.two.id) ∙ sym (shows_group (contents_of old) group status there shows d is.0))
      (changed.own d)

  room_same : (d : ℕ) → has_room (contents_of new) d next ≡ has_room (contents_of old) d next
  room_same d = ap (λ (c : Contents). has_room c d next) changed.rest

  members_same : members_in (contents_of new) all_disks group.id next ≡ members_in (contents_of old) all_disks group.id next
  members_same = λ t d. still d t && room_same d t

  can_read : CanRead next (members_in (contents_of new) all_disks group.id next)
  can_read = subst (λ (s : Disks). CanRead next s) (sym members_same) may.opened.reads

  module _ (facts : List Fact) (kept : Kept (contents_of old) facts) where
    turned_all : Kept (contents_of new) facts
    turned_all = (turn_keeps (contents_of old) (contents_of new) facts group next there after shows.stands shows.stands (images_within old) (images_within new)
        (record {
          two = may.opened.two;
          value = refl;
          change = changed;
          showing = λ d is. inl (shows_group (contents_of old) group status there shows d is);
          later = λ d r shown its. inl (is_later d r shown);
          finds = λ disks k f. inl (shows.only disks k f);
          after = reads_two;
          served = committed_serves (contents_of old) group status there facts (images_within old) may.enough shows kept;
          reads = λ d is. can_read;
        })
        kept).0

  module _ (written : Disks) (slots : Homes) (stands : StandsWritten w written homes slots old new) where
    stand_there : (d : ℕ) → IsTrue (written d) → (contents_of new).descriptor d ≡ Some after
    unfolding descriptor_on
    stand_there d is =
        let may_go = descriptor_may_go old group next status there stamp homes framed whole holds frames reads later in
        whole_is_new Descriptor descriptor_of w next old new d may_go (wider w old new frames may_go.slots by) (stands.targets d is) (stands.stands d is)

pub turn_write_keeps : TurnWriteKeeps
turn_write_keeps group next status there stamp homes framed old new facts whole holds may frames reads later by kept =
    turned_all group next status there stamp homes framed old whole holds may frames reads later new by facts kept

-- ---- once it stands

before_next : (s : Stamp) → stamp_lt s (next_stamp s) ≡ true
before_next s = grind (arith, nat_tests)

differ : kind.Descriptor ≡ kind.Status → ⊥
differ e = absurd cc

module _ (group next : Descriptor) (status : Status) (there written : Disks) (stamp : Stamp) (homes slots : Homes) (framed : Framed) (old new : Image) (whole : IsWholeImage old) (holds : HoldsCommitted old group status there stamp homes)
    (may : MayTurnTo (contents_of old) group next there) (frames : Frames kind.Descriptor framed) (reads : descriptor_of framed.content ≡ Ok next) (later : IsNoLater (next_stamp stamp) framed.stamp)
    (stands : StandsWritten (write_of kind.Descriptor framed there homes) written homes slots old new) (enough : CanWrite group written) (enough_too : CanWrite next written) where
  abbrev one : RecordWrite
  one = write_of kind.Descriptor framed there homes

  abbrev next_shown : Stamped Descriptor
  next_shown = as_read one next

  finds_two : (disks : Disks) (k : Descriptor) → Finds (contents_of new) disks group.id k → (k ≡ group) ⊎ (k ≡ next)
  finds_two disks k f = ⊎_elim
      (λ (before : IsFound (contents_of old) group.id k). inl (holds.shows.only before.0 k before.1))
      (λ (is : (group.id ≡ next.id) × (k ≡ next)). inr is.1)
      (descriptor_finds_no_more there next_shown (contents_of old) (contents_of new) (images_within new)
      (λ d r shown its. is_later group next status there stamp homes framed old whole holds may frames reads later new stands.changes d r shown)
      (changed group next status there stamp homes framed old whole holds may frames reads later new stands.changes) group.id k (disks, f))

  abbrev change : DescriptorsChange there next_shown (contents_of old) (contents_of new)
  change = changed group next status there stamp homes framed old whole holds may frames reads later new stands.changes

  parts : (d : ℕ) → IsTrue (members_among next written d) → IsTrue (written d) × IsTrue (is_member next d)
  parts d is = and_parts (written d) (is_member next d) is

  shows_next : ShowsCommitted (contents_of new) next status (members_among next written)
  shows_next = turn_is_committed (contents_of new) group next written (members_among next written) next_shown status holds.shows.stands (images_within new) (record {
    two = may.opened.two;
    value = refl;
    finds = finds_two;
    have = λ d is. stand_there group next status there stamp homes framed old whole holds may frames reads later new stands.changes written slots stands d is;
    latest = latest group next status there stamp homes framed old whole holds may frames reads later new stands.changes;
    enough = enough;
    enough_too = enough_too;
    reads = can_read group next status there stamp homes framed old whole holds may frames reads later new stands.changes;
    among = λ d is. (parts d is).0;
    room = λ d is.
        let p = places_of d (parts d is).0 (parts d is).1 in
        room_same group next status there stamp homes framed old whole holds may frames reads later new stands.changes d ∙ p;
    own = holds.shows.own ∙ may.opened.two.id;
    committed = holds.shows.committed;
    stated = λ d is. ap (λ (s : ℕ → Option (Stamped Status)). s d) (ap (λ (c : Contents). c.status) change.rest) ∙ holds.shows.stated d (stands.targets d (parts d is).0);
    last = λ d r shown its. holds.shows.last d r (sym (ap (λ (s : ℕ → Option (Stamped Status)). s d) (ap (λ (c : Contents). c.status) change.rest)) ∙ shown) (its ∙ sym may.opened.two.id);
  })
    where
      places_of : (d : ℕ) → IsTrue (written d) → IsTrue (is_member next d) → has_room (contents_of old) d next ≡ true
      places_of d is member = may.opened.room d (stands.targets d is) member

-- ---- its slots

module _ (group next : Descriptor) (status : Status) (there written : Disks) (stamp : Stamp) (homes slots : Homes) (framed : Framed) (old new : Image) (whole : IsWholeImage old) (holds : HoldsCommitted old group status there stamp homes)
    (may : MayTurnTo (contents_of old) group next there) (frames : Frames kind.Descriptor framed) (reads : descriptor_of framed.content ≡ Ok next) (later : IsNoLater (next_stamp stamp) framed.stamp)
    (stands : StandsWritten (write_of kind.Descriptor framed there homes) written homes slots old new) where
  abbrev to_slots : RecordWrite
  to_slots = write_of kind.Descriptor framed there homes

  both_before : (d : ℕ) → IsTrue (there d) → BothBefore (on_disk to_slots d) (old.sector d)
  both_before d is = later_may_go to_slots (next_stamp stamp) old d whole holds.stamps later (holds.there d is)

  module _ (d : ℕ) (is : IsTrue (written d)) where
    on : IsTrue (there d)
    on = stands.targets d is

    abbrev second_slot : ℕ
    second_slot = if second_slots kind.Descriptor homes d then 1 else 0

    torn : IsTornWrite (on_disk to_slots d) (old.sector d) (new.sector d)
    torn s = ⊎_elim (λ same. inl same) (λ (of : IsOfRecord to_slots d s (new.sector d s)). inr of.its) (stands.changes.each d s)

    -- the record went to its slot
    turned_there : ((second_slot ≡ 0) × (slot_for descriptor_of kind.Descriptor (new.sector d) ≡ 1)) ⊎ ((second_slot ≡ 1) × (slot_for descriptor_of kind.Descriptor (new.sector d) ≡ 0))
    turned_there = turned (on_disk to_slots d) (old.sector d) (new.sector d) frames (place_below (second_slots kind.Descriptor homes d)) torn Descriptor descriptor_of next reads (both_before d on) (stands.stands d is)

    older : slot_for descriptor_of kind.Descriptor (new.sector d) ≡ (if second_slots kind.Descriptor homes d then 0 else 1)
    older = by (second_slots kind.Descriptor homes d) turned_there
      where
        by : (t : Bool) → ((◌≡◌ {A = ℕ} (if t then 1 else 0) 0) × (slot_for descriptor_of kind.Descriptor (new.sector d) ≡ 1)) ⊎ ((◌≡◌ {A = ℕ} (if t then 1 else 0) 1) × (slot_for descriptor_of kind.Descriptor (new.sector d) ≡ 0))
            → slot_for descriptor_of kind.Descriptor (new.sector d) ≡ (if t then 0 else 1)
        by true (inl is) = let wrong = is.0 in absurd (omega (arith, wrong))
        by true (inr is) = is.1
        by false (inl is) = is.1
        by false (inr is) = let wrong = is.0 in absurd (omega (arith, wrong))

    own_spared : next_slot kind.Descriptor slots d ≡ slot_for descriptor_of kind.Descriptor (new.sector d)
    own_spared = ap (λ (t : Bool). if t then 1 else 0) (stands.flips.own d ∙ ap (λ (t : Bool). if t then not (second_slots kind.Descriptor homes d) else second_slots kind.Descriptor homes d) is)
        ∙ place_turns (second_slots kind.Descriptor homes d) (slot_for descriptor_of kind.Descriptor (new.sector d))
        turned_there

    other_spared : next_slot kind.Status slots d ≡ slot_for status_of kind.Status (new.sector d)
    other_spared = ap (λ (t : Bool). if t then 1 else 0) (stands.flips.other kind.Status (λ e. differ (sym e)) d) ∙ (holds.homes d on).status
        ∙ sym (other_kind (on_disk to_slots d) (old.sector d) (new.sector d) frames (place_below (second_slots kind.Descriptor homes d)) torn status_of kind.Status (λ e. differ (sym e)))

pub turn_is_held : TurnIsHeld
turn_is_held group next status there written stamp homes slots framed old new whole holds may frames reads later stands enough enough_too = record {
  shows = shows_next group next status there written stamp homes slots framed old new whole holds may frames reads later stands enough enough_too;
  stamps = record_is_before_next (write_of kind.Descriptor framed there homes) (next_stamp framed.stamp) old new frames (before_next framed.stamp) stands.changes (later_is_after_too (next_stamp stamp) framed.stamp old later holds.stamps);
  there = λ d is. room-same old new stands.changes.same d ∙ holds.there d (stands.targets d (reached d is));
  homes = λ d is. record {
    descriptor = own_spared group next status there written stamp homes slots framed old new whole holds may frames reads later stands d (reached d is);
    status = other_spared group next status there written stamp homes slots framed old new whole holds may frames reads later stands d (reached d is);
  };
}
  where
    reached : (d : ℕ) → IsTrue (members_among next written d) → IsTrue (written d)
    reached d is = (and_parts (written d) (is_member next d) is).0

pub turn_is_shown : TurnIsShown
turn_is_shown group next status there written stamp homes slots framed old new whole holds may frames reads later stands d is = record {
  record_is = as_read (write_of kind.Descriptor framed there homes) next;
  value = refl;
  shown = stand_there group next status there stamp homes framed old whole holds may frames reads later new stands.changes written slots stands d is;
  older = older group next status there written stamp homes slots framed old new whole holds may frames reads later stands d is;
}
