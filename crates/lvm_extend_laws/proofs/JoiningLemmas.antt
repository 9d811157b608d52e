-- A disk joins a group: what was kept is kept meanwhile, and the next descriptor is the committed one then.
use Rattle.std.proofs.Common.{◌≡◌, ◌⊎◌, inl, inr, ⊎_elim, ℕ, ◌<◌, Bool, true, false, ◌&&◌, ◌||◌, List, [], ◌∷◌, ◌++◌, Option, Some, None, refl, sym, ap, subst, ◌∙◌, eq-eqb}
use Rattle.std.specs.Prelude.{◌==◌, IsTrue, not, nat_le, find}
use Rattle.std.specs.Option.{option_or}
use Rattle.std.specs.List.{list_any}
use Rattle.std.proofs.lemmas.Bool.{eqb-true, and_parts}
use Rattle.std.proofs.lemmas.Option.{same_Some}
use Rattle.std.proofs.lemmas.List.Folds.{find-append, list_any-append}
use Rattle.lvm_num.specs.declared.place.Pp.{Pp}
use Rattle.lvm_num.specs.declared.descriptor.Mode.{Mode}
use Rattle.lvm_num.specs.declared.descriptor.Mode.TheVariants.{Active, Passive, Off}
use Rattle.lvm_num.specs.declared.descriptor.PvRow.{PvRow}
use Rattle.lvm_num.specs.declared.descriptor.LvRow.{LvRow}
use Rattle.lvm_num.specs.declared.descriptor.Descriptor.{Descriptor}
use Rattle.lvm_num.specs.declared.status.Status.{Status}
use Rattle.lvm_num.specs.Descriptor.{is_member, member_of, copies_of}
use Rattle.lvm_num.specs.Disks.{Disks}
use Rattle.lvm_num.specs.Geometry.{sectors_needed}
use Rattle.lvm_num.specs.Record.{Stamped, stamp_lt}
use Rattle.lvm_num.specs.Status.{calls_stale, calls_dirty}
use Rattle.lvm_num.specs.Votes.{votes_in, all_disks, CanRead}
use Rattle.lvm_num.proofs.Booleans.{or_false, or_left}
use Rattle.lvm_num.proofs.Lists.{found_any}
use Rattle.lvm_num.proofs.VotesLemmas.{read_meets_write, more_have_more, more_is_enough}
use Rattle.lvm_vol.specs.Facts.{Fact, Cut}
use Rattle.lvm_vol.specs.May.{Known, known}
use Rattle.lvm_vol.specs.declared.entry.Vol.TheVariants.{Lv}
use Rattle.lvm_kept.specs.Contents.{Contents}
use Rattle.lvm_kept.specs.Group.{passes, is_of, has_room, IsFound, members_in, is_stale_by, fresh_on, IsOneOf, IsSome}
use Rattle.lvm_kept.specs.Kept.{MayDiffer, IsBlockKept, Kept}
use Rattle.lvm_kept.specs.Committed.{IsWithinDisks}
use Rattle.lvm_kept.specs.Torn.{DescriptorsChange}
use Rattle.lvm_kept.proofs.CommittedLemmas.Finding.{finding_reads}
use Rattle.lvm_kept.proofs.GroupLemmas.{finds_before}
use Rattle.lvm_kept.proofs.KeptLemmas.{same_blocks}
use Rattle.lvm_steps.proofs.GroupLemmas.Members.{member_of_parts}
use Rattle.lvm_commit.specs.Committed.{ShowsCommitted}
use Rattle.lvm_commit.specs.LawsOfFinding.{FindsNoMore}
use Rattle.lvm_commit.specs.LawsOfVolumes.{LeavesOthers}
use Rattle.lvm_commit.proofs.LawsLemmas.Found.{shows_group}
use Rattle.lvm_commit.proofs.LawsOfFindingLemmas.NoMore.{descriptor_finds_no_more}
use Rattle.lvm_change_votes.proofs.MeetingLemmas.{one_more_meets, more_meets_written}
use Rattle.lvm_change_votes.proofs.ReachingLemmas.{reaches_next}
use Rattle.lvm_change_laws.specs.Turning.{AreTwo, FindsTwo, ReadsTwo, DoesFor, Served}
use Rattle.lvm_change_laws.proofs.Words.{filter_same}
use Rattle.lvm_change_laws.proofs.TwoLemmas.{valid_are_two}
use Rattle.lvm_change_laws.proofs.TurningLemmas.{turn_keeps, reads_are_two}
use Rattle.lvm_change_laws.proofs.StatingLemmas.{state_turn_keeps}
use Rattle.lvm_change_laws.proofs.CommittedLemmas.{committed_serves, turn_is_committed}
use Rattle.lvm_extend_laws.specs.Joining.{with_disk, TakesIn, LetsJoin, IsJoining, JoiningFinds, JoiningKeeps, HasJoined, JoiningIsCommitted}

not_none : {X : Type 0} (x : X) → Some x ≡ None → ⊥
not_none x is = cc

-- ---- the two descriptors

module _ (group next : Descriptor) (row : PvRow) (there : Disks) (takes : TakesIn group next row there) where
  member_next : (d : ℕ) → is_member next d ≡ (is_member group d || (row.disk == d))
  member_next d = ap (λ (g : Descriptor). is_member g d) takes.is ∙ list_any-append (λ (r : PvRow). r.disk == d) group.pvs (row ∷ []) ∙ ap (λ (b : Bool). is_member group d || b) (or_false (row.disk == d))

  found_next : (d : ℕ) (p : PvRow) → member_of group d ≡ Some p → member_of next d ≡ Some p
  found_next d p is = ap (λ (g : Descriptor). member_of g d) takes.is ∙ find-append (λ (r : PvRow). r.disk == d) group.pvs (row ∷ [])
      ∙ ap (λ (o : Option PvRow). option_or o (find (λ (r : PvRow). r.disk == d) (row ∷ []))) is

  pub are_two : AreTwo group next
  are_two = valid_are_two group next (record {
    valid_g = takes.valid;
    valid_h = takes.valid_next;
    id = sym (ap (λ (g : Descriptor). g.id) takes.is);
    size = sym (ap (λ (g : Descriptor). g.mib) takes.is);
    volumes = sym (ap (λ (g : Descriptor). g.lvs) takes.is);
    near = one_more_meets group next takes.more;
    partitions = λ d p q is also. ap (λ (r : PvRow). r.pps) (same_Some p q (sym (found_next d p is) ∙ also));
  })

  next_id : next.id ≡ group.id
  next_id = ap (λ (g : Descriptor). g.id) takes.is

  -- what a member has room for by the one it has by the other
  room_still : (c : Contents) (d : ℕ) → IsTrue (has_room c d group) → IsTrue (has_room c d next)
  room_still c d is = ap (has_room c d) takes.is ∙ list_any-append (λ (r : PvRow). r.disk == d && nat_le (sectors_needed group.mib r.pps) (c.size d)) group.pvs (row ∷ [])
      ∙ or_left (list_any (λ (r : PvRow). r.disk == d && nat_le (sectors_needed group.mib r.pps) (c.size d)) (row ∷ [])) is

  -- the disk that joins was no member
  none_found : member_of group row.disk ≡ None
  none_found = by (member_of group row.disk) refl
    where
      by : (o : Option PvRow) → member_of group row.disk ≡ o → member_of group row.disk ≡ None
      by None is = is
      by (Some p) is = absurd (no (sym takes.apart ∙ found_any (λ (r : PvRow). r.disk == row.disk) group.pvs p is))
        where
          no : false ≡ true → ⊥
          no e = cc

  quorum_stays : (next.quorum ≡ true) ⊎ (group.quorum ≡ false)
  quorum_stays = by group.quorum refl
    where
      by : (b : Bool) → group.quorum ≡ b → (next.quorum ≡ true) ⊎ (group.quorum ≡ false)
      by true is = inl (ap (λ (g : Descriptor). g.quorum) takes.is ∙ is)
      by false is = inr is

-- one of the set, or the disk
pub of_either : (disk : ℕ) (set : Disks) (d : ℕ) → IsTrue (with_disk disk set d) → (d ≡ disk) ⊎ IsTrue (set d)
of_either disk set d is = by (d == disk) refl is
  where
    by : (b : Bool) → (d == disk) ≡ b → (b || set d) ≡ true → (d ≡ disk) ⊎ IsTrue (set d)
    by true same its = inl (eqb-true d disk same)
    by false same its = inr its

-- ---- from the disks that show the group as committed

module _ (old : Contents) (group next : Descriptor) (row : PvRow) (status : Status) (there : Disks) (stated : Stamped Status) (described : Stamped Descriptor)
    (within : IsWithinDisks old) (lets : LetsJoin old group next row status there stated described) where
  abbrev x : ℕ
  x = row.disk

  abbrev id : ℕ
  id = group.id

  abbrev was : Stamped Status
  was = lets.shows.stands

  two : AreTwo group next
  two = are_two group next row there lets.takes

  stated_id : stated.value.id ≡ id
  stated_id = lets.told.id ∙ lets.shows.own

  was_id : was.value.id ≡ id
  was_id = ap (λ (s : Status). s.id) lets.shows.committed ∙ lets.shows.own

  described_id : described.value.id ≡ id
  described_id = ap (λ (g : Descriptor). g.id) lets.value ∙ next_id group next row there lets.takes

  showing : (d : ℕ) → IsTrue (with_disk x there d) → IsTrue (passes (is_of id) (old.descriptor d)) ⊎ (old.descriptor d ≡ None)
  showing d is = ⊎_elim
      (λ (same : d ≡ x). ⊎_elim
      (λ (none : old.descriptor x ≡ None). inr (ap old.descriptor same ∙ none))
      (λ (its : IsTrue (passes (is_of id) (old.descriptor x))). inl (ap (λ (e : ℕ). passes (is_of id) (old.descriptor e)) same ∙ its))
      lets.free)
      (λ (on : IsTrue (there d)). inl (shows_group old group status there lets.shows d on))
      (of_either x there d is)

  showing_apart : (d : ℕ) → IsTrue (with_disk x there d) → IsTrue (passes (is_of id) (old.descriptor d)) ⊎ ((old.descriptor d ≡ None) × (member_of group d ≡ None))
  showing_apart d is = ⊎_elim
      (λ (same : d ≡ x). ⊎_elim
      (λ (none : old.descriptor x ≡ None). inr (ap old.descriptor same ∙ none, ap (member_of group) same ∙ none_found group next row there lets.takes))
      (λ (its : IsTrue (passes (is_of id) (old.descriptor x))). inl (ap (λ (e : ℕ). passes (is_of id) (old.descriptor e)) same ∙ its))
      lets.free)
      (λ (on : IsTrue (there d)). inl (shows_group old group status there lets.shows d on))
      (of_either x there d is)

  -- some member isn't missing, and has the committed status
  was_earlier : stamp_lt was.stamp stated.stamp ≡ true
  was_earlier =
      let met = read_meets_write group (members_in old all_disks id group) there (finding_reads old all_disks id group lets.shows.found).reads.enough lets.takes.enough in
      lets.statuses met.0 was (lets.shows.stated met.0 met.3) was_id

  meets : (a : Disks) → CanRead group a → (d : ℕ) × IsTrue (a d) × IsTrue (there d)
  meets a can = let m = read_meets_write group a there can lets.takes.enough in (m.0, m.2, m.3)

  meets_next : (a : Disks) → CanRead next a → (d : ℕ) × IsTrue (a d) × IsTrue (there d)
  meets_next a can = let m = more_meets_written group next lets.takes.more there a lets.takes.enough can in (m.0, m.4, m.3)

  -- ---- the status says of the copies what the committed one does

  stale_same : (row : LvRow) (lp : ℕ) (p : Pp) → IsOneOf group.lvs row → IsOneOf (copies_of row lp) p → is_stale_by (Some stated) p ≡ is_stale_by (Some was) p
  stale_same row lp p one copy =
      let at = two.places row lp p one copy in
      lets.told.stale p ∙ ap (λ (b : Bool). b && calls_stale status p) (found_any (λ (r : PvRow). r.disk == p.disk) next.pvs at.1 at.3) ∙ ap (λ (s : Status). calls_stale s p) (sym lets.shows.committed)

  dirty_same : (lv : ℕ) → calls_dirty was.value lv ≡ true → calls_dirty stated.value lv ≡ true
  dirty_same lv is = ap (λ (numbers : List ℕ). list_any (λ n. n == lv) numbers) (lets.told.dirty ∙ sym (ap (λ (s : Status). s.dirty) lets.shows.committed)) ∙ is

  fresh_same : (set : Disks) (row : LvRow) (lp : ℕ) → IsOneOf group.lvs row → fresh_on set (Some stated) row lp ≡ fresh_on set (Some was) row lp
  fresh_same set row lp one = filter_same (λ (p : Pp). set p.disk && not (is_stale_by (Some stated) p)) (λ (p : Pp). set p.disk && not (is_stale_by (Some was) p)) (copies_of row lp)
      (λ p copy. ap (λ (b : Bool). set p.disk && not b) (stale_same row lp p one copy))

  differ : (c : Contents) (lv : ℕ) (mode : Mode) (copies : List Pp) (k : Known) (b : ℕ) → MayDiffer c (Some was) lv mode copies k b → MayDiffer c (Some stated) lv mode copies k b
  differ c lv Active copies k b m = m
  differ c lv Passive copies k b m = dirty_same lv m
  differ c lv Off copies k b m = m

  does_too : (facts : List Fact) → DoesFor old facts group was → DoesFor old facts group stated
  does_too facts does = record {
    blocks = λ row lp b one inside.
        let set : Disks = members_in old all_disks id group in
        let at : Known = known (facts ++ Cut ∷ []) (Lv row.number) b in
        let stood : IsBlockKept old group.mib (Some was) row (fresh_on set (Some was) row lp) at b = does.blocks row lp b one inside in
        subst (λ (ps : List Pp). IsBlockKept old group.mib (Some stated) row ps at b) (sym (fresh_same set row lp one)) (record {
          allowed = stood.allowed;
          equal = ⊎_elim (λ same. inl same) (λ may. inr (differ old row.number row.mode (fresh_on set (Some was) row lp) at b may)) stood.equal;
        });
    some = λ row lp one inside. subst (λ (ps : List Pp). IsSome ps) (sym (fresh_same (members_in old all_disks id group) row lp one)) (does.some row lp one inside);
  }

  serves : (facts : List Fact) → Kept old facts → Served old facts group was stated
  serves facts kept =
      let before = committed_serves old group status there facts within lets.takes.enough lets.shows kept in
      record { volumes = before.volumes; by_was = before.by_was; by_is = does_too facts before.by_was }

  -- ---- what stands meanwhile

  module _ (new : Contents) (within_new : IsWithinDisks new) (joining : IsJoining old new row.disk there stated described) where
    abbrev mid : Contents
    mid = record old { status = new.status }

    disks_same : new.disks ≡ old.disks
    disks_same = ap (λ (c : Contents). c.disks) joining.rest

    within_mid : IsWithinDisks mid
    within_mid = record { descriptors = within.descriptors; statuses = λ d r is. subst (λ (n : ℕ). d < n) disks_same (within_new.statuses d r is) }

    last : (d : ℕ) (r : Stamped Status) → new.status d ≡ Some r → r.value.id ≡ id → (stamp_lt r.stamp was.stamp ≡ true) ⊎ (r ≡ was) ⊎ (r ≡ stated)
    last d r shown its = ⊎_elim
        (λ (same : new.status d ≡ old.status d). ⊎_elim (λ low. inl low) (λ is. inr (inl is)) (lets.shows.last d r (sym same ∙ shown) its))
        (λ (put : IsTrue (with_disk x there d) × (new.status d ≡ Some stated)). inr (inr (same_Some r stated (sym shown ∙ put.1))))
        (joining.statuses d)

    have : (d : ℕ) → IsTrue (there d) → (new.status d ≡ Some was) ⊎ (new.status d ≡ Some stated)
    have d is = ⊎_elim (λ (same : new.status d ≡ old.status d). inl (same ∙ lets.shows.stated d is)) (λ (put : IsTrue (with_disk x there d) × (new.status d ≡ Some stated)). inr put.1) (joining.statuses d)

    reads_in : (c : Contents) → IsWithinDisks c → c.status ≡ new.status → ReadsTwo c group next was stated
    reads_in c within_c same = reads_are_two c group next there was stated within_c (record {
      own = was_id;
      next_own = stated_id;
      later = inr was_earlier;
      have = λ d is. subst (λ (s : ℕ → Option (Stamped Status)). (s d ≡ Some was) ⊎ (s d ≡ Some stated)) (sym same) (have d is);
      newest = λ d r room shown its. last d r (sym (ap (λ (s : ℕ → Option (Stamped Status)). s d) same) ∙ shown) its;
    }) meets meets_next

    changes : DescriptorsChange (with_disk x there) described mid new
    changes = record { own = joining.descriptors; rest = joining.rest }

    later_descriptor : (d : ℕ) (r : Stamped Descriptor) → old.descriptor d ≡ Some r → r.value.id ≡ id → (stamp_lt r.stamp described.stamp ≡ true) ⊎ (r ≡ described)
    later_descriptor d r shown its = inl (lets.descriptors d r shown its)

    -- ---- who can read the next one

    shown_still : (d : ℕ) → passes (is_of id) (old.descriptor d) ≡ true → passes (is_of id) (new.descriptor d) ≡ true
    shown_still d is = ⊎_elim
        (λ (same : new.descriptor d ≡ old.descriptor d). ap (passes (is_of id)) same ∙ is)
        (λ (put : IsTrue (with_disk x there d) × (new.descriptor d ≡ Some described)). ap (passes (is_of id)) put.1 ∙ eq-eqb described.value.id id described_id)
        (joining.descriptors d)

    abbrev set : Disks
    set = members_in new all_disks id next

    room_same : (d : ℕ) → has_room new d next ≡ has_room old d next
    room_same d = ap (λ (c : Contents). has_room c d next) joining.rest

    stays_in : (d : ℕ) → IsTrue (members_in old all_disks id group d) → IsTrue (set d)
    stays_in d is =
        let parts = and_parts (passes (is_of id) (old.descriptor d)) (has_room old d group) is in
        member_of_parts new all_disks id next d refl (shown_still d parts.0) (room_same d ∙ room_still group next row there lets.takes old d parts.1)

    module _ (first : new.descriptor row.disk ≡ Some described) where
      joins_in : IsTrue (set x)
      joins_in = member_of_parts new all_disks id next x refl (ap (passes (is_of id)) first ∙ eq-eqb described.value.id id described_id) (room_same x ∙ lets.room)

      written_in : (d : ℕ) → IsTrue (with_disk x there d) → IsTrue (set d)
      written_in d is = ⊎_elim
          (λ (same : d ≡ x). subst (λ (e : ℕ). IsTrue (set e)) (sym same) joins_in)
          (λ (on : IsTrue (there d)). stays_in d (member_of_parts old all_disks id group d refl (shows_group old group status there lets.shows d on) (lets.shows.room d on)))
          (of_either x there d is)

      pub can_read : CanRead next set
      can_read = reaches_next group next set (record {
        some = lets.takes.valid_next.head.a_member;
        reads = more_is_enough.read group (votes_in group (members_in old all_disks id group)) (votes_in group set) (more_have_more group (members_in old all_disks id group) set (λ d member is. stays_in d is))
            (finding_reads old all_disks id group lets.shows.found).reads.enough;
        writes = more_is_enough.write next (votes_in next (with_disk x there)) (votes_in next set) (more_have_more next (with_disk x there) set (λ d member is. written_in d is)) lets.takes.enough_too;
        fresh = λ d member. fresh d (is_member group d) refl (sym (member_next group next row there lets.takes d) ∙ member);
        on = quorum_stays group next row there lets.takes;
      })
        where
          fresh : (d : ℕ) (b : Bool) → is_member group d ≡ b → (is_member group d || (row.disk == d)) ≡ true → IsTrue (is_member group d) ⊎ IsTrue (set d)
          fresh d true is either = inl is
          fresh d false is either = inr (subst (λ (e : ℕ). IsTrue (set e)) (eqb-true row.disk d (sym (ap (λ (b : Bool). b || (row.disk == d)) is) ∙ either)) joins_in)

    -- ---- what is kept

    module _ (facts : List Fact) (kept : Kept old facts) where
      stated_first : Kept mid facts × FindsTwo mid group next × LeavesOthers old mid id
      stated_first = state_turn_keeps old mid facts group next (with_disk x there) was stated (record {
        two = two;
        own = joining.statuses;
        rest = refl;
        showing = showing;
        id = stated_id;
        later = λ d r shown its. inl (lets.statuses d r shown its);
        finds = λ disks k f. inl (lets.shows.only disks k f);
        after = reads_in mid within_mid refl;
        served = serves facts kept;
      }) kept

      still_does : (s : Stamped Status) → DoesFor old facts group s → DoesFor mid facts group s
      still_does s does = record { blocks = same_blocks old old.descriptor new.status facts group (members_in old all_disks id group) (Some s) does.blocks; some = does.some }

      served_mid : Served mid facts group was stated
      served_mid = let s = serves facts kept in record { volumes = s.volumes; by_was = still_does was s.by_was; by_is = still_does stated s.by_is }

      described_then : Kept new facts × FindsTwo new group next × LeavesOthers mid new id
      described_then = turn_keeps mid new facts group next (with_disk x there) described was stated within_mid within_new (record {
        two = two;
        value = lets.value;
        change = changes;
        showing = showing_apart;
        later = later_descriptor;
        finds = stated_first.1;
        after = reads_in new within_new refl;
        served = served_mid;
        reads = λ d shown. can_read (joining.first d shown);
      }) stated_first.0

      pub keeps : Kept new facts × FindsTwo new group next × LeavesOthers old new id
      keeps = (described_then.0, described_then.1, λ other k apart is. stated_first.2 other k apart (described_then.2 other k apart is))

    -- ---- once both stand

    pub finds_no_more : FindsNoMore next old new
    finds_no_more other k (disks, f) = ⊎_elim
        (λ (before : IsFound mid other k). inl (before.0, finds_before old new.status old.note old.block before.0 other k before.1))
        (λ (is : (other ≡ described.value.id) × (k ≡ described.value)). inr (is.0 ∙ ap (λ (g : Descriptor). g.id) lets.value, is.1 ∙ lets.value))
        (descriptor_finds_no_more (with_disk x there) described mid new within_new (λ d r shown its. lets.descriptors d r shown (its ∙ described_id)) changes other k (disks, f))

    finds_two : FindsTwo new group next
    finds_two disks k f = ⊎_elim
        (λ (before : IsFound old id k). inl (lets.shows.only before.0 k before.1))
        (λ (is : (id ≡ next.id) × (k ≡ next)). inr is.1)
        (finds_no_more id k (disks, f))

    pub committed : (written : Disks) → HasJoined new group next row.disk there written stated described → ShowsCommitted new next stated.value written
    committed written joined = turn_is_committed new group next written written described stated.value stated within_new (record {
      two = two;
      value = lets.value;
      finds = finds_two;
      have = joined.describes;
      latest = λ d r shown its. ⊎_elim
          (λ (same : new.descriptor d ≡ old.descriptor d). later_descriptor d r (sym same ∙ shown) its)
          (λ (put : IsTrue (with_disk x there d) × (new.descriptor d ≡ Some described)). inr (same_Some r described (sym shown ∙ put.1)))
          (joining.descriptors d);
      enough = joined.enough;
      enough_too = joined.enough_too;
      reads = can_read (joined.describes row.disk joined.joins);
      among = λ d is. is;
      room = λ d is. (and_parts (passes (is_of id) (new.descriptor d)) (has_room new d next) (written_in (joined.describes row.disk joined.joins) d (joined.among d is))).1;
      own = lets.told.id ∙ lets.shows.own ∙ sym (next_id group next row there lets.takes);
      committed = refl;
      stated = joined.states;
      last = λ d r shown its. ⊎_elim
          (λ (same : new.status d ≡ old.status d). inl (lets.statuses d r (sym same ∙ shown) (its ∙ next_id group next row there lets.takes)))
          (λ (put : IsTrue (with_disk x there d) × (new.status d ≡ Some stated)). inr (same_Some r stated (sym shown ∙ put.1)))
          (joining.statuses d);
    })

pub joining_keeps : JoiningKeeps
joining_keeps old new facts group next row status there stated described within within_new lets joining kept = keeps old group next row status there stated described within lets new within_new joining facts kept

pub joining_is_committed : JoiningIsCommitted
joining_is_committed old new group next row status there written stated described within within_new lets joining joined = committed old group next row status there stated described within lets new within_new joining written joined

pub joining_finds : JoiningFinds
joining_finds old new group next row status there stated described within within_new lets joining = finds_no_more old group next row status there stated described within lets new within_new joining
