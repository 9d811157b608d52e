-- A tied session is tied by the next descriptor once the commit of its move has ended well.
use Rattle.std.proofs.Common.{◌≡◌, ◌⊎◌, inl, inr, ⊎_elim, ℕ, ◌<◌, ◌^◌, Bool, true, false, ◌&&◌, ◌||◌, ◌==◌, not, List, [], ◌∷◌, Option, Some, None, Ok, refl, sym, ap, subst, ◌∙◌, arith, eq-eqb, eqb-true}
use Rattle.std.specs.Prelude.{IfSome, IsTrue, IsFalse, is_some, nat_le}
use Rattle.std.specs.List.{list_any}
use Rattle.std.specs.Option.{option_map}
use Rattle.std.proofs.lemmas.Bool.{and_parts, cases_Bool}
use Rattle.std.proofs.lemmas.Bool.Decides.{nat_tests}
use Rattle.arrayvec.specs.ArrayVec.{ArrayVec}
use Rattle.lvm_num.specs.Buffer.{Buffer, Sector}
use Rattle.lvm_num.specs.declared.record.NoteEntry.{NoteEntry}
use Rattle.lvm_num.specs.declared.descriptor.PvRow.{PvRow}
use Rattle.lvm_num.specs.Geometry.{sector_of, sectors_needed}
use Rattle.lvm_steps.specs.Behind.{StampsBefore}
use Rattle.lvm_invariant.specs.Sound.{StaysFresh}
use Rattle.lvm_num.specs.declared.place.Pp.{Pp}
use Rattle.lvm_num.specs.declared.record.Kind.TheVariants as kind
use Rattle.lvm_num.specs.declared.record.Stamp.{Stamp}
use Rattle.lvm_num.specs.declared.descriptor.Descriptor.{Descriptor}
use Rattle.lvm_num.specs.declared.descriptor.LvRow.{LvRow}
use Rattle.lvm_num.specs.declared.status.Status.{Status}
use Rattle.lvm_num.specs.Descriptor.{IsValid, copies_of, is_member}
use Rattle.lvm_num.specs.DescriptorBytes.{descriptor_of}
use Rattle.lvm_num.specs.Disks.{has}
use Rattle.lvm_num.specs.Record.{Stamped, stamp_lt}
use Rattle.lvm_num.specs.Status.{calls_dirty, calls_missing, calls_stale}
use Rattle.lvm_num.specs.Votes.{CanWrite, all_disks, is_enough_to_write, votes_in}
use Rattle.lvm_num.proofs.Booleans.{clash_gives}
use Rattle.lvm_num.proofs.Lists.{of_told}
use Rattle.lvm_vol.specs.Facts.{Fact}
use Rattle.lvm_disk.specs.Device.{Device, Flight, HasSectors, Image, Media, AreSectors, image_of}
use Rattle.lvm_disk.specs.Steps.{BothTold}
use Rattle.lvm_kept.specs.Contents.{Contents, contents_of}
use Rattle.lvm_kept.specs.Group.{IsBlockOf, IsOneOf, has_room, is_of, names_if, passes}
use Rattle.lvm_kept.specs.Kept.{Kept}
use Rattle.lvm_kept.specs.Plans.{ChangesBy}
use Rattle.lvm_kept.proofs.ChangesLemmas.Entries.{volume_is_row}
use Rattle.lvm_kept.proofs.CommittedLemmas.Finding.{images_within}
use Rattle.lvm_steps.proofs.GroupLemmas.Members.{member_of_parts, parts_of}
use Rattle.lvm_steps.proofs.MakingLemmas.Making.{media_may}
use Rattle.lvm_rec.specs.declared.homes.Homes.{Homes}
use Rattle.lvm_status.specs.Update.{Stored, members_there, seen, Updates}
use Rattle.lvm_commit.specs.Committed.{HoldsCommitted, next_stamp}
use Rattle.lvm_commit.specs.LawsOfVolumes.{LeavesOthers}
use Rattle.lvm_commit.specs.Settling.{ComesHeld, CommitLeaves, EndsCommitted, HasAnother, IsOfCommit, IsPassedOver, IsPlain, MembersAreLeft, OthersAreLeft, SessionIsHeld, there}
use Rattle.lvm_mwc.specs.Cache.{flight_on}
use Rattle.lvm_session.specs.declared.bringing.OpenCopy.{OpenCopy}
use Rattle.lvm_session.specs.declared.flown.Owner.TheVariants as owner
use Rattle.lvm_session.specs.State.{Core, State, is_there, state}
use Rattle.lvm_session.specs.Marks.{Reviews, is_entailed}
use Rattle.lvm_session.specs.Sound.{IsGoing, IsSound}
use Rattle.lvm_invariant.specs.State.{Marks, ModelState}
use Rattle.lvm_invariant.specs.Good.{Good}
use Rattle.lvm_invariant.specs.Want.{Replaced, Wants}
use Rattle.lvm_crash.specs.Session.{Describes, GroupStands, HasVolumes, as_marks, marks_of, marks_shown}
use Rattle.lvm_even.specs.Members.{members_showing}
use Rattle.lvm_move_laws.specs.Standing.{IsAlone}
use Rattle.lvm_move_laws.proofs.StandingLemmas.{next_stands}
use Rattle.lvm_move_keeps.specs.Drained.{IsDrainedMoving}
use Rattle.lvm_move_keeps.specs.Keeping.{HasMovedTo}
use Rattle.lvm_move_keeps.proofs.StandsLemmas.{move_has_moved}
use Rattle.lvm_tie.specs.Out.{CarryTheirs, IsWriteOf}
use Rattle.lvm_tie.specs.Seen.{Sees, SeesStatus, update_of}
use Rattle.lvm_tie.specs.Spares.{SparesDescriptors, SparesOn}
use Rattle.lvm_tie.specs.Tied.{HoldsRecords, IsTied}
use Rattle.lvm_tie.specs.Wanted.{KeepsFresh, SeesMarks}
use Rattle.lvm_tie.proofs.AmongLemmas.{not_true}
use Rattle.lvm_tie.proofs.BeginsLemmas.Resting.{some_is_none}
use Rattle.lvm_tie.proofs.SeenLemmas.Beside.{copy_seen, copy_shown}
use Rattle.lvm_tie.proofs.SeenLemmas.Quiet.{flies_none}
use Rattle.lvm_tie.proofs.TiedLemmas.Recorded.{no_update_of, shown_of, shows_own}
use Rattle.lvm_tie.proofs.WantedLemmas.Behind.{first_block}
use Rattle.lvm_tie.proofs.WantedLemmas.Reviewing.{review_is_wanted}
use Rattle.lvm_crash.specs.Owned.{OnlyUpdateSince}
use Rattle.lvm_move_tie.specs.Restating.{MayRestate, Restatement, restated}
use Rattle.lvm_move_tie.specs.Taking.{next_group}
use Rattle.lvm_move_tie.proofs.ChangesLemmas.{blocks_stay, descriptor_stays, notes_stay}
use Rattle.lvm_move_tie.proofs.HeldLemmas.{members as members_show, of_group, session_held}
use Rattle.lvm_move_tie.proofs.OverLemmas.{KeepsAt, described, good_w, no_step, on_kept, only, w as w_of}
use Rattle.lvm_move_tie.proofs.RestatingLemmas.{restating_keeps}
use Rattle.lvm_move_tie.proofs.TakingLemmas as taking

is_that : (n m : ℕ) → (n ≡ m) ⊎ (n ≡ m → ⊥)
is_that n m = by (n == m) refl
  where
    by : (t : Bool) → (n == m) ≡ t → (n ≡ m) ⊎ (n ≡ m → ⊥)
    by true is = inl (eqb-true n m is)
    by false is = inr (λ e. clash_gives (n == m) (subst (λ (i : ℕ). (n == i) ≡ true) e (eq-eqb n n refl)) is)

-- what is so of both shelves' media is so of those that they tell
of_both : (old new : Option Media) (R : Media → Media → Type 0) (was is : Media) → old ≡ Some was → new ≡ Some is → BothTold old new R → R was is
of_both None new R was is told now both = absurd (cc told)
of_both (Some x) None R was is told now both = absurd (cc now)
of_both (Some x) (Some y) R was is told now both = subst (λ (m : Media). R m is) (let e : x ≡ was = cc told in e) (subst (R x) (let e : y ≡ is = cc now in e) both)

-- a shelf that tells its media tells it afterwards
both_told : (old new : Option Media) (R : Media → Media → Type 0) (was : Media) → old ≡ Some was → BothTold old new R → (is : Media) × (new ≡ Some is) × R was is
both_told None None R was told both = absurd (cc told)
both_told None (Some is) R was told both = absurd both
both_told (Some x) None R was told both = absurd both
both_told (Some x) (Some is) R was told both = (is, refl, subst (λ (m : Media). R m is) (let e : x ≡ was = cc told in e) both)

same_bool : (a b : Bool) → (a ≡ true → b ≡ true) → (b ≡ true → a ≡ true) → a ≡ b
same_bool true true f g = refl
same_bool true false f g = absurd (cc (f refl))
same_bool false true f g = absurd (cc (g refl))
same_bool false false f g = refl

not_so : (a : Bool) → (a ≡ true → ⊥) → a ≡ false
not_so true f = absurd (f refl)
not_so false f = refl

-- what a commit of the descriptor leaves where it has ended well
pub record IsCommittedTo (s : State) (c : OpenCopy) (content : List ℕ) (before after : ℕ) (last : Stored) (homes : Homes) (device : Device) : Type 0 where
  pub reads : descriptor_of content ≡ Ok (next_group s c)
  pub number : ℕ
  pub back : Buffer
  pub ends : EndsCommitted (ComesHeld content s.core.status last s.core.homes homes s.device device) (IsPlain kind.Descriptor content s.core.status last s.core.homes s.device device) number last s.device device back
  pub leaves : CommitLeaves (next_group s c) (IsOfCommit content s.core.status last) before after s.core.status last s.device device
  pub keeps : KeepsAt content s device

module _ (past : List Fact) (s : State) (c : OpenCopy) (tied : IsTied past s) (drained : IsDrainedMoving s c) (spares : SparesDescriptors s) (content : List ℕ) (before after : ℕ) (last : Stored) (homes : Homes) (device : Device)
    (is : IsCommittedTo s c content before after last homes device) (st : Stored) where
  abbrev core : Core
  core = s.core

  abbrev v : ModelState
  v = tied.view

  abbrev group : Descriptor
  group = core.descriptor

  abbrev next : Descriptor
  next = next_group s c

  abbrev was : Image
  was = image_of s.device.sizes tied.media

  abbrev shown : Contents
  shown = contents_of was

  -- as the records leave it, by the next descriptor; and as it is reviewed
  abbrev pub base : Core
  base = record core { status = last; homes = homes; descriptor = next; copy = None }

  abbrev pub core2 : Core
  core2 = record base { status = st }

  module _ (review : Reviews base core2) (sound2 : IsSound (state device core2)) (sectors : HasSectors device) where
    moved : HasMovedTo c.lv c.lp c.pp group next
    moved = move_has_moved core c (taking.valid past s c tied drained) (taking.copy past s c tied drained) (taking.whole_is past s c tied drained).moves

    valid : IsValid next
    valid = moved.valid

    going2 : IsGoing core2
    going2 = (sound2.on drained.on).going

    -- ---- the shelf

    told_then : (m : Media) × (device.media ≡ Some m) × ChangesBy (IsOfCommit content core.status last) was (image_of device.sizes m)
    told_then = both_told s.device.media device.media (λ a b. ChangesBy (IsOfCommit content core.status last) (image_of s.device.sizes a) (image_of device.sizes b)) tied.media tied.setting.told is.leaves.keeps.media

    abbrev media : Media
    media = told_then.0

    abbrev image : Image
    image = image_of device.sizes media

    abbrev now : Contents
    now = contents_of image

    changes : ChangesBy (IsOfCommit content core.status last) was image
    changes = told_then.2

    kept : Kept now v.facts
    kept = subst (Kept now) (sym tied.sees.facts) (on_kept past s c tied drained content is.reads (of_group past s c tied drained) (session_held past s c tied drained spares) device is.keeps image (media_may device media told_then.1))

    held_both : SessionIsHeld device next last homes × OthersAreLeft group.id s.device device × MembersAreLeft group.id s.device device
    held_both = is.ends.held group next is.reads (of_group past s c tied drained) moved.alike (session_held past s c tied drained spares)

    held : HoldsCommitted image next last.committed (there last) last.stamp homes
    held = of_told (λ (m : Media). HoldsCommitted (image_of device.sizes m) next last.committed (there last) last.stamp homes) device.media media told_then.1 held_both.0

    others : LeavesOthers shown now group.id
    others = of_both s.device.media device.media (λ x y. LeavesOthers (contents_of (image_of s.device.sizes x)) (contents_of (image_of device.sizes y)) group.id) tied.media media tied.setting.told told_then.1 held_both.1

    members_left : (d : ℕ) → passes (is_of group.id) (shown.descriptor d) ≡ true → passes (is_of group.id) (now.descriptor d) ≡ true
    members_left = of_both s.device.media device.media (λ x y. (d : ℕ) → passes (is_of group.id) ((contents_of (image_of s.device.sizes x)).descriptor d) ≡ true → passes (is_of group.id) ((contents_of (image_of device.sizes y)).descriptor d) ≡ true)
        tied.media media tied.setting.told told_then.1 held_both.2

    -- ---- the status

    rest : seen st ≡ record (seen last) { wanted = st.wanted }
    rest = review.marks.rest

    committed_is : st.committed ≡ last.committed
    committed_is = ap (λ (u : Updates). u.committed) rest

    flies_is : st.in_flight ≡ None
    flies_is = ap (λ (u : Updates). u.in_flight) rest ∙ is.ends.committed.idle

    stamp_is : st.stamp ≡ last.stamp
    stamp_is = ap (λ (u : Updates). u.stamp) rest

    no_update : update_of st ≡ None
    no_update = no_update_of st flies_is

    -- the members that aren't missing
    group_is : last.group ≡ record group { lvs = [] }
    group_is = is.leaves.loses.group ∙ tied.orderly.sound.fitting.group

    there_then : (d : ℕ) → is_there core2 d ≡ there last d
    there_then d = ap (λ (b : Bool). is_member next d && not b) (review.marks.missing d) ∙ sym (ap (λ (g : Descriptor). members_there g last.wanted d) group_is)

    there_before : (d : ℕ) → is_there core d ≡ there core.status d
    there_before d = sym (ap (λ (g : Descriptor). members_there g core.status.wanted d) tied.orderly.sound.fitting.group)

    was_there : (d : ℕ) → is_there core2 d ≡ true → is_there core d ≡ true
    was_there d there_now =
        let parts = and_parts (is_member group d) (not (calls_missing st.wanted d)) there_now in
        let gone_not : calls_missing core.status.wanted d ≡ false = not_so (calls_missing core.status.wanted d) (λ gone. clash_gives (calls_missing st.wanted d) (review.marks.missing d ∙ is.leaves.loses.stays d gone) (not_true (calls_missing st.wanted d) parts.1)) in
        let member = parts.0 in λ t. member t && not (gone_not t)

    abbrev stands : Stamped Status
    stands = held.shows.stands

    stands_own : stands.value.id ≡ group.id
    stands_own = ap (λ (x : Status). x.id) held.shows.committed ∙ held.shows.own

    -- ---- the members that show the group

    size_same : (d : ℕ) → now.size d ≡ shown.size d
    size_same d = changes.same.size d

    room_same : (d : ℕ) → has_room now d next ≡ has_room shown d next
    room_same d = ap (λ (n : ℕ). list_any (λ (row : PvRow). row.disk == d && nat_le (sectors_needed next.mib row.pps) n) next.pvs) (size_same d)

    -- a member that wasn't missing shows it still, also where it was lost
    still_shows : (d : ℕ) → is_there core d ≡ true → IsTrue (members_showing now next d)
    still_shows d before_ =
        let parts = parts_of shown all_disks group.id group d (members_show past s c tied drained d before_) in
        member_of_parts now all_disks next.id next d refl (members_left d parts.1) (room_same d ∙ parts.2)

    members_same : (d : ℕ) → members_showing now next d ≡ members_showing shown next d
    members_same d = ⊎_elim
        (λ (before_ : is_there core d ≡ true). still_shows d before_ ∙ sym (members_show past s c tied drained d before_))
        (λ (away : is_there core d ≡ false).
        let descriptor : now.descriptor d ≡ shown.descriptor d = descriptor_stays content core.status last was image changes d (sym (there_before d) ∙ away) in
        let room = room_same d in
        λ t. passes (is_of next.id) (descriptor t) && room t)
        (cases_Bool (is_there core d))

    all_same : members_showing shown next ≡ members_showing now next
    all_same = λ t d. sym (members_same d) t

    -- ---- the state with the statuses as the records leave them

    abbrev w : ModelState
    w = w_of past s c tied drained

    good : Good tied.votes w
    good = good_w past s c tied drained

    volumes : HasVolumes w v.facts next (members_showing shown next)
    volumes = (described past s c tied drained v.facts (taking.describes past s c tied drained)).0

    abbrev mid : ModelState
    mid = record w { committed = as_marks None stands; wanted = marks_of None last.wanted }

    volumes_mid : HasVolumes mid v.facts next (members_showing shown next)
    volumes_mid = let m = volumes in record { copies = m.copies; free = m.free; inside = m.inside; some = m.some; notes = m.notes; mark = m.mark; modes = m.modes; history = m.history }

    stands_stale : (p : Pp) → calls_stale stands.value p ≡ calls_stale last.wanted p
    stands_stale p = ap (λ (x : Status). calls_stale x p) (held.shows.committed ∙ is.ends.committed.same)

    -- what was called stale is
    still : (p : Pp) → calls_stale core.status.committed p ≡ true → calls_stale last.wanted p ≡ true
    still p stale = is.leaves.loses.stale p (ap (λ (x : Status). calls_stale x p) (sym (taking.done past s c tied drained).committed) ∙ stale)

    -- a copy on a member that was there is one of the state
    is_copy_of : (row : LvRow) (lp b : ℕ) (p : Pp) → IsOneOf next.lvs row → IsBlockOf next.mib row lp b → IsOneOf (copies_of row lp) p → IsTrue (members_showing shown next p.disk) → IsTrue (w.is_copy row.number b p)
    is_copy_of row lp b p one block copy there_now = copy_seen volumes row lp b p one block copy there_now

    -- each logical partition keeps a copy that is fresh by them
    fresh_mid : (lv b : ℕ) (p : Pp) → IsTrue (w.is_copy lv b p) → (e : Pp) × IsTrue (w.is_copy lv b e) × (calls_stale last.wanted e ≡ false)
    fresh_mid lv b p copy = by (calls_stale last.wanted k.0) refl
      where
        k : (e : Pp) × IsTrue (w.is_copy lv b e) × StaysFresh w e
        k = good.sound.statuses.kept lv b p copy

        first_fresh : calls_stale core.status.wanted k.0 ≡ false
        first_fresh = taking.or_none (calls_stale core.status.wanted k.0) (taking.left past s c tied drained k.0) k.2.wanted

        by : (t : Bool) → calls_stale last.wanted k.0 ≡ t → (e : Pp) × IsTrue (w.is_copy lv b e) × (calls_stale last.wanted e ≡ false)
        by false is_fresh = (k.0, k.1, is_fresh)
        by true stale = ⊎_elim
            (λ (old : IsTrue (calls_stale core.status.wanted k.0)). clash_gives (calls_stale core.status.wanted k.0) old first_fresh)
            (λ (passed : IsPassedOver next core.status last k.0).
            let its : HasAnother next k.0 = passed.its in
            let at = first_block next valid its.row its.lp its.inside in
            let inside = volumes.inside lv b k.0 k.1 in
            let here = copy_shown volumes inside.row inside.lp b k.0 inside.volume inside.inside (subst (λ n. IsTrue (w.is_copy n b k.0)) (sym inside.number) k.1) in
            let mine = is_copy_of its.row its.lp at.0 k.0 its.volume at.1 its.one here in
            let other = is_copy_of its.row its.lp at.0 its.other its.volume at.1 its.among (members_show past s c tied drained its.other.disk (there_before its.other.disk ∙ passed.was_there)) in
            (its.other, good.sound.tied.owner lv b its.row.number at.0 k.0 its.other k.1 mine other, passed.fresh))
            (is.leaves.left.only k.0 stale)

    keeps_mid : KeepsFresh mid
    keeps_mid lv b p copy = let k = fresh_mid lv b p copy in (k.0, k.1, stands_stale k.0 ∙ k.2, k.2)

    abbrev missing : ℕ → Bool
    missing d = not (is_there core2 d)

    gone : (d : ℕ) → IsTrue (w.missing d) → IsTrue (missing d)
    gone d was_gone = ap not (not_so (is_there core2 d) (λ there_now. clash_gives (is_there core d) (was_there d there_now) (not_true (is_there core d) (sym (tied.sees.status.missing d) ∙ was_gone))))

    same_base : (d : ℕ) → is_there base d ≡ is_there core2 d
    same_base d = sym (ap (λ (b : Bool). is_member next d && not b) (review.marks.missing d))

    sees_mid : SeesMarks base mid missing
    sees_mid = record { committed = ap (marks_of None) held.shows.committed; wanted = refl; missing_is = λ d. ap not (sym (same_base d)); still = gone }

    shows_base : (d : ℕ) → IsTrue (is_there base d) → IsTrue (members_showing shown next d)
    shows_base d there_now = members_show past s c tied drained d (was_there d (sym (same_base d) ∙ there_now))

    wants : Wants mid (marks_of None st.wanted) missing None
    wants = review_is_wanted base core2 mid missing v.facts (members_showing shown next) valid volumes_mid shows_base sees_mid keeps_mid good.sound.tied.owner (λ x is_opened. absurd (cc is_opened)) (λ none. refl) review

    -- ---- as it is then

    abbrev r : Restatement
    r = record { status = λ d. marks_shown None group.id (now.status d); committed = as_marks None stands; wanted = marks_of None st.wanted; missing = missing }

    abbrev v2 : ModelState
    v2 = restated w r

    kept_fresh : (lv b : ℕ) (p : Pp) → IsTrue (w.is_copy lv b p) → (e : Pp) × IsTrue (w.is_copy lv b e) × IsFalse (r.committed.value.stale e) × IsFalse (r.wanted.stale e)
    kept_fresh lv b p copy = by (fresh_mid lv b p copy) (calls_stale st.wanted (fresh_mid lv b p copy).0) refl
      where
        by : (k : (e : Pp) × IsTrue (w.is_copy lv b e) × (calls_stale last.wanted e ≡ false)) (t : Bool) → calls_stale st.wanted k.0 ≡ t
            → (e : Pp) × IsTrue (w.is_copy lv b e) × IsFalse (r.committed.value.stale e) × IsFalse (r.wanted.stale e)
        by k false is_fresh = (k.0, k.1, stands_stale k.0 ∙ k.2, is_fresh)
        by k true stale = ⊎_elim
            (λ (old : IsTrue (mid.wanted.stale k.0)). clash_gives (calls_stale last.wanted k.0) old k.2)
            (λ (new : Replaced mid (marks_of None st.wanted) k.0 ⊎ ((l n : ℕ) → IsTrue (mid.is_copy l n k.0) → ⊥)). ⊎_elim
            (λ (x : Replaced mid (marks_of None st.wanted) k.0). (x.other, good.sound.tied.owner lv b x.lv x.block k.0 x.other k.1 x.copy x.other_copy, x.fresh, x.kept))
            (λ (none : (l n : ℕ) → IsTrue (mid.is_copy l n k.0) → ⊥). absurd (none lv b k.1))
            new)
            (wants.added k.0 stale)

    dirty_then : (lv : ℕ) → calls_dirty st.wanted lv ≡ calls_dirty core.status.committed lv
    dirty_then lv = ap (λ (ns : List ℕ). list_any (λ n. n == lv) ns) (review.marks.dirty ∙ is.leaves.loses.dirty) ∙ ap (λ (x : Status). calls_dirty x lv) (sym (taking.done past s c tied drained).committed)

    stands_dirty : (lv : ℕ) → calls_dirty stands.value lv ≡ calls_dirty core.status.committed lv
    stands_dirty lv = ap (λ (x : Status). calls_dirty x lv) (held.shows.committed ∙ is.ends.committed.same) ∙ ap (λ (ns : List ℕ). list_any (λ n. n == lv) ns) is.leaves.loses.dirty ∙ ap (λ (x : Status). calls_dirty x lv) (sym (taking.done past s c tied drained).committed)

    may : MayRestate tied.votes w r
    may = record {
      still = λ p stale. stands_stale p ∙ still p (and_parts (calls_stale core.status.committed p) true stale).0;
      dirty = λ lv h. stands_dirty lv ∙ h;
      gone = gone;
      kept = kept_fresh;
      wants = λ p stale. review.marks.stale p ∙ ap (λ (b : Bool). b || (is_entailed base p || false)) (sym (stands_stale p) ∙ stale);
      wants_dirty = λ lv h. dirty_then lv ∙ sym (stands_dirty lv) ∙ h;
      behind = wants.behind;
      set = there last;
      enough = tied.setting.are_votes.writes (there last) ∙ subst (λ (g : Descriptor). IsTrue (is_enough_to_write g (votes_in g (there last)))) group_is is.ends.committed.votes;
      have = λ d at. ap (marks_shown None group.id) (held.shows.stated d at) ∙ shows_own None group.id stands stands_own;
      only = λ d m shows.
          let x = shown_of None group.id (now.status d) m shows in
          ⊎_elim
          (λ (earlier : stamp_lt x.0.stamp stands.stamp ≡ true). inl (ap (λ (y : Stamped Marks). stamp_lt y.stamp stands.stamp) (sym x.3) ∙ earlier))
          (λ (same : x.0 ≡ stands). inr (sym x.3 ∙ ap (as_marks None) same))
          (held.shows.last d x.0 x.1 x.2);
    }

    good2 : Good tied.votes v2
    good2 = restating_keeps tied.votes w r may good

    -- ---- it describes the disks

    alone : IsAlone now next
    alone disks id g finds = ⊎_elim
        (λ (own : id ≡ next.id). inl own)
        (λ (other : id ≡ next.id → ⊥).
        let old = others id g other (disks, finds) in
        ⊎_elim
        (λ (same : id ≡ group.id). absurd (other same))
        (λ (none : (group.lvs ≡ []) × (g.lvs ≡ [])). absurd (no_volume none.0))
        (tied.describes.stands.alone old.0 id g old.1))
        (is_that id next.id)
      where
        no_volume : group.lvs ≡ [] → ⊥
        no_volume none = some_row (volume_is_row group c.lv (taking.its past s c tied drained).row (taking.its past s c tied drained).volume)
          where
            some_row : IsOneOf group.lvs (taking.its past s c tied drained).row → ⊥
            some_row one = absurd (subst (λ (rows : List LvRow). IsOneOf rows (taking.its past s c tied drained).row) none one)

    stands_next : GroupStands now next
    stands_next = next_stands now next last.committed (there last) v.facts valid (images_within image) (subst (λ (g : Descriptor). CanWrite g (there last)) group_is is.ends.committed.votes) held.shows kept alone

    volumes2 : HasVolumes v2 v.facts next (members_showing now next)
    volumes2 = let m = subst (HasVolumes w v.facts next) all_same volumes in record { copies = m.copies; free = m.free; inside = m.inside; some = m.some; notes = m.notes; mark = m.mark; modes = m.modes; history = m.history }

    describes2 : Describes v2 v2.facts next None now
    describes2 =
        let old = (described past s c tied drained v.facts (taking.describes past s c tied drained)).1 in
        record {
          stands = stands_next;
          volumes = volumes2;
          shown = record {
            blocks = λ lv b p copy. old.blocks lv b p copy ∙ ap (λ (f : ℕ → ℕ → Sector). f p.disk (sector_of next.mib p.pp b)) (sym (blocks_stay content core.status last was image changes));
            names = λ d lv g. old.names d lv g ∙ ap (λ n. names_if n lv g) (sym (notes_stay content core.status last was image changes d));
            status = λ d. refl;
            statuses = record {
              same = refl;
              own = λ u flies. absurd (cc flies);
              once = kept.lasting.statuses;
              new = λ u d x flies. absurd (cc flies);
            };
          };
          raw = kept.agrees.raw;
        }

    -- ---- it is seen so

    idle2 : (d : ℕ) → (has st.writes.unstarted d ≡ false) × (has st.writes.started d ≡ false) × (has st.writes.written d ≡ false) × (has st.writes.failed d ≡ false)
    idle2 d = going2.status.idle flies_is d

    sees_status : SeesStatus None st (is_there core2) v2.committed v2.in_flight v2.wanted v2.status_flying v2.media.status v2.missing
    sees_status = record {
      committed = ap (marks_of None) (held.shows.committed ∙ sym committed_is);
      in_flight = sym (ap (option_map (as_marks None)) no_update);
      wanted = refl;
      started = λ d. tied.sees.status.started d ∙ flies_none past s tied drained.idle (owner.Status d) ∙ sym (idle2 d).1;
      written = λ d had. clash_gives (has st.writes.written d) had (idle2 d).2;
      held = λ u flies enough. some_is_none (update_of st) u no_update flies;
      missing = λ d. refl;
    }

    sees2 : Sees past core2 v2
    sees2 = record {
      queue = record {
        requests = tied.sees.queue.requests;
        a_step = λ x is_opened. absurd (cc is_opened);
        only = λ i q at. inl (only past s c tied drained i q at);
        names = tied.sees.queue.names;
      };
      facts = tied.sees.facts;
      status = sees_status;
      notes = record {
        cache = tied.sees.notes.cache;
        home = λ d lv g n at is_note. tied.sees.notes.home d lv g n (was_there d at) is_note;
        flying = tied.sees.notes.flying;
      };
      open_copy = refl;
      step_write = no_step past s c tied drained;
      beside = refl;
    }

    -- ---- what stands in the records

    recorded2 : HoldsRecords v2.committed.stamp next core2.origin.table st homes image
    recorded2 = record {
      next = record {
        some_epoch = subst (λ (x : Stamp). x.epoch ≡ 0 → ⊥) (sym stamp_is) (subst (λ (n : ℕ). n ≡ 0 → ⊥) (sym is.leaves.numbers.epoch) tied.recorded.next.some_epoch);
        epoch = subst (λ (x : Stamp). x.epoch < 2 ^ 64) (sym stamp_is) (subst (λ (n : ℕ). n < 2 ^ 64) (sym is.leaves.numbers.epoch) tied.recorded.next.epoch);
        whole = of_told (λ (m : Media). AreSectors device.sizes m) device.media media told_then.1 sectors;
        before = subst (λ (x : Stamp). StampsBefore (next_stamp x) image) (sym stamp_is) held.stamps;
        spare = λ d at owed. (held.homes d (sym (there_then d) ∙ at)).status;
      };
      members = λ d member first. members_same d ∙ tied.recorded.members d member first;
      records = record {
        descriptor = held.shows.descriptor;
        value = held.shows.value;
        described = λ d at. held.shows.described d (sym (there_then d) ∙ at);
        latest = held.shows.latest;
        settled = λ none. record { stands = stands; committed = held.shows.committed ∙ sym committed_is; own = stands_own; stated = λ d at. held.shows.stated d (sym (there_then d) ∙ at); last = held.shows.last };
      };
      committed = record {
        stands = λ d x at own stamp. ⊎_elim
            (λ (earlier : stamp_lt x.stamp stands.stamp ≡ true). clash_gives (stamp_lt stands.stamp stands.stamp) (ap (λ (y : Stamp). stamp_lt y stands.stamp) (sym stamp) ∙ earlier) (not_before stands.stamp))
            (λ (same : x ≡ stands). ap (λ (y : Stamped Status). y.value) same ∙ held.shows.committed ∙ sym committed_is)
            (held.shows.last d x at own);
        flies = λ u flies stamp. some_is_none (update_of st) u no_update flies;
      };
    }
      where
        not_before : (x : Stamp) → stamp_lt x x ≡ false
        not_before x = grind (arith, nat_tests)

    none_carried : (fs : List Flight) → fs ≡ [] → CarryTheirs core2 v2 fs core2.flying
    none_carried [] e = tt
    none_carried (f ∷ fs) e = absurd (cc e)

    pub tied2 : IsTied past (state device core2)
    tied2 = record {
      votes = tied.votes;
      media = media;
      setting = record { are_votes = record { reads = tied.setting.are_votes.reads; writes = tied.setting.are_votes.writes }; told = told_then.1; own = tied.setting.own };
      view = v2;
      sees = sees2;
      good = good2;
      describes = subst (λ (u : Option (Stamped Status)). Describes v2 v2.facts next u now) (sym no_update) describes2;
      write = None;
      orderly = record { sound = sound2; on = drained.on; update = subst (λ (o : Option Status). IsWriteOf st homes o None) (sym flies_is) tt };
      since = subst (OnlyUpdateSince device None) (sym no_update) tt;
      recorded = recorded2;
      notes = λ d items flies. some_is_none (flight_on core.cache d) items (none_noted d) flies;
      copy_aimed = λ x is_opened. absurd (cc is_opened);
      carry = none_carried device.flights is.ends.back.ready.flights;
    }
      where
        none_noted : (d : ℕ) → flight_on core.cache d ≡ None
        none_noted d = by (flight_on core.cache d) (flies_none past s tied drained.idle (owner.Note d))
          where
            by : (m : Option (ArrayVec NoteEntry)) → is_some m ≡ false → m ≡ None
            by None none = refl
            by (Some m) none = absurd (cc none)

    pub spares2 : SparesDescriptors (state device core2)
    spares2 = subst (λ (o : Option Media). IfSome o (SparesOn core2)) (sym told_then.1) (λ d at. (held.homes d (sym (there_then d) ∙ at)).descriptor)
