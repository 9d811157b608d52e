-- What the end of a write of the update entails, wanted of the state: alone, or as the update is committed.
use Rattle.std.proofs.Common.{◌≡◌, ◌⊎◌, inl, inr, ⊎_elim, ℕ, Bool, true, false, ◌&&◌, ◌||◌, ◌==◌, not, eqb-true, List, Option, Some, None, refl, sym, ap, subst, ◌∙◌}
use Rattle.std.specs.Prelude.{IsTrue, IsFalse, if◌then◌else◌, unwrap_or}
use Rattle.std.specs.Option.{option_map_or}
use Rattle.std.proofs.lemmas.Bool.{and_parts}
use Rattle.std.proofs.lemmas.Option.{same_Some}
use Rattle.lvm_num.specs.declared.place.Pp.{Pp}
use Rattle.lvm_num.specs.declared.descriptor.Descriptor.{Descriptor}
use Rattle.lvm_num.specs.declared.status.Status.{Status}
use Rattle.lvm_num.specs.Buffer.{Buffer}
use Rattle.lvm_num.specs.Descriptor.{is_member, is_pp}
use Rattle.lvm_num.specs.Disks.{Disks, has}
use Rattle.lvm_num.specs.Record.{Stamped}
use Rattle.lvm_num.specs.Status.{calls_missing, calls_stale}
use Rattle.lvm_num.proofs.Booleans.{clash_gives}
use Rattle.lvm_vol.specs.Facts.{Fact}
use Rattle.lvm_disk.specs.Device.{image_of}
use Rattle.lvm_kept.specs.Contents.{Contents, contents_of}
use Rattle.lvm_status.specs.Update.{Stored, Updates, is_held, members_there, seen, with_disk}
use Rattle.lvm_status.specs.Calls.{WantsAtEnd, comes_held, with_end as with_write_end}
use Rattle.lvm_session.specs.declared.bringing.OpenCopy.{OpenCopy}
use Rattle.lvm_session.specs.declared.bringing.CopyEnd.{CopyEnd}
use Rattle.lvm_session.specs.declared.bringing.CopyEnd.TheVariants as ending
use Rattle.lvm_session.specs.declared.flown.Flown.{Flown}
use Rattle.lvm_session.specs.declared.flown.Owner.TheVariants as owner
use Rattle.lvm_session.specs.State.{Core, State, is_there}
use Rattle.lvm_session.specs.Judging.{stays_fresh, is_missing, is_running, is_stale, is_wanted_stale}
use Rattle.lvm_session.specs.Bringing.{copy_ends, end_of, is_held_stale, is_cleared, is_done_end, is_whole, marked_by_end}
use Rattle.lvm_session.specs.Marks.{Reviews, is_entailed}
use Rattle.lvm_session.specs.Ends.{Returns, StatusLearns, with_return}
use Rattle.lvm_session.specs.Sound.{IsGoing}
use Rattle.lvm_invariant.specs.State.{Marks, Beside, ModelCopy, ModelState}
use Rattle.lvm_invariant.specs.Good.{Good}
use Rattle.lvm_invariant.specs.Want.{Wants}
use Rattle.lvm_invariant.specs.Commit.{Commit, Commits}
use Rattle.lvm_invariant.specs.MoveStatus.{moved}
use Rattle.lvm_invariant.specs.Events.{CommitUpdate, Want}
use Rattle.lvm_invariant.proofs.EventsLemmas.Each.{each_keeps}
use Rattle.lvm_crash.specs.Session.{Describes, HasVolumes, as_marks, marks_of, is_beside}
use Rattle.lvm_even.specs.Members.{members_showing}
use Rattle.lvm_crash.proofs.RecordsLemmas.Quiet.{quiet_lasts}
use Rattle.lvm_crash.specs.Records.{StatusEnded, statuses_of}
use Rattle.lvm_tie.proofs.StateLemmas.{there_first}
use Rattle.lvm_tie.proofs.TiedLemmas.Orderly.{valid_of}
use Rattle.lvm_tie.proofs.AmongLemmas.{or_either, or_true}
use Rattle.lvm_tie.specs.Tied.{CommittedIsOne, IsTied}
use Rattle.lvm_tie.proofs.TiedLemmas.Recorded.{one_remains}
use Rattle.lvm_tie.specs.Seen.{update_of}
use Rattle.lvm_tie.specs.Near.{open_after}
use Rattle.lvm_tie.specs.Wanted.{HasOwners, IsBrought, KeepsFresh, SeesMarks}
use Rattle.lvm_tie.proofs.WantedLemmas.Behind.{IsMarked, review_wants}
use Rattle.lvm_tie.proofs.NearLemmas.{ends_running}
use Rattle.lvm_tie.proofs.WantedLemmas.Reviewing.{goes_on, none_opened, opened, part_ends, review_is_wanted, whole_ends}
use Rattle.lvm_tie.proofs.UpdateLemmas.{commits_well, committed_status, committed_then, committed_value, enough, flies_status, held_mid, learned, marks_then, missing_then}
use Rattle.lvm_tie.proofs.StatusesLemmas.Update.{IsWritten, ended, good_moved, kept, may_stand, moves, one_stands, stands_here, still_stands, was_update, written}
use Rattle.lvm_tie.proofs.SeenLemmas.Beside.{beside_stale, none_beside, stale_apart, stale_so}

-- the copy that is open once the update is committed: one that it clears is done
abbrev done_after : Option CopyEnd → Option ModelCopy → Option ModelCopy
done_after None o = o
done_after (Some how) o = if is_done_end how then None else o

module _ (past : List Fact) (old new : State) (index disk : ℕ) (ok : Bool) (row : Flown) (buf : Buffer) (its_owner : row.owner ≡ owner.Status disk) (returns : Returns old new index row ok buf) (tied : IsTied past old)
    (learns : StatusLearns old.core index disk ok buf new.core) where
  abbrev core : Core
  core = old.core

  abbrev v : ModelState
  v = tied.view

  abbrev group : Descriptor
  group = core.descriptor

  abbrev stored : Stored
  stored = learns.status

  -- before it is reviewed
  abbrev pub core1 : Core
  core1 = record (with_return core index buf) { status = stored; homes = learns.homes }

  abbrev pub how : Option CopyEnd
  how = copy_ends core1

  abbrev status : Stored
  status = new.core.status

  review : Reviews core1 new.core
  review = learns.reviews

  going : IsGoing core
  going = (tied.orderly.sound.on tied.orderly.on).going

  abbrev its : IsWritten old.device core v tied.write (ended past old new index disk ok row buf its_owner returns tied).flight disk
  its = written past old new index disk ok row buf its_owner returns tied

  abbrev t : Status
  t = its.value

  abbrev u : Stamped Status
  u = record { stamp = core.status.stamp; value = t }

  abbrev now : Contents
  now = contents_of (image_of old.device.sizes (ended past old new index disk ok row buf its_owner returns tied).media)

  abbrev flying : ℕ → Bool
  flying d = has status.writes.started d

  left : StatusEnded v group u (ended past old new index disk ok row buf its_owner returns tied).flight.disk ok flying now
  left = moves past old new index disk ok row buf its_owner returns tied flying

  -- the status of each disk as it stands, and which writes are out
  abbrev pub v1 : ModelState
  v1 = moved v (statuses_of v.beside group.id now) flying

  good1 : Good tied.votes v1
  good1 = good_moved past old new index disk ok row buf its_owner returns tied flying

  abbrev commits : Bool
  commits = comes_held (seen core.status) (with_write_end (seen core.status) disk ok stored.wanted)

  abbrev mid : Updates
  mid = learned (seen core.status) disk ok stored.wanted commits

  -- The state after it, with these marks and this copy.
  abbrev pub after : Stamped Marks → (ℕ → Bool) → ModelState
  after committed missing = record v1 { committed = committed; wanted = marks_of v.beside status.wanted; missing = missing; open_copy = open_after how v.open_copy }

  pub record IsReviewed : Type 0 where
    pub committed : Stamped Marks
    pub missing : ℕ → Bool
    pub good : Good tied.votes (after committed missing)
    pub describes : Describes (after committed missing) v.facts group (Some u) now
    pub marks : committed.value ≡ marks_of v.beside stored.committed
    pub held : is_held mid ≡ true → committed ≡ as_marks v.beside u
    pub missing_is : (d : ℕ) → missing d ≡ not (is_there core1 d)
    -- what is under the stamp of the committed status is that status, where no other update is in flight
    pub one : (x : Stored) → x.committed ≡ stored.committed → ((y : Stamped Status) → update_of x ≡ Some y → y ≡ u) → CommittedIsOne committed.stamp group x now

  -- ---- of both

  stale_same : (p : Pp) → is_wanted_stale core1 p ≡ is_wanted_stale core p
  stale_same p = ap (λ (m : Marks). m.stale p) (marks_then None disk ok core.status.wanted stored.wanted learns.wants)

  wanted_seen : v.wanted ≡ marks_of v.beside stored.wanted
  wanted_seen = tied.sees.status.wanted ∙ sym (marks_then v.beside disk ok core.status.wanted stored.wanted learns.wants)

  abbrev members : Disks
  members = members_showing now group

  not_true_is : (b : Bool) → not b ≡ true → b ≡ false
  not_true_is true h = absurd (cc h)
  not_true_is false h = refl

  -- a disk that is there was
  pub was_there : (d : ℕ) → is_there core1 d ≡ true → is_there core d ≡ true
  was_there d there =
      let parts = and_parts (is_member group d) (not (calls_missing stored.wanted d)) there in
      let member = parts.0 in
      let before = missing_then disk ok core.status.wanted stored.wanted learns.wants d (not_true_is (calls_missing stored.wanted d) parts.1) in
      λ k. member k && not (before k)

  shows : (d : ℕ) → IsTrue (is_there core1 d) → IsTrue (members d)
  shows d there =
      let parts = and_parts (is_member group d) (not (is_missing core d)) (was_there d there) in
      ap (λ (c : Contents). members_showing c group d) (kept past old new index disk ok row buf its_owner returns tied).rest ∙ tied.recorded.members d parts.0 (there_first past old tied d (not_true_is (is_missing core d) parts.1))

  owners : HasOwners v
  owners = tied.good.sound.tied.owner

  -- ---- where it isn't committed by this end

  module _ (none : commits ≡ false) where
    abbrev missing : ℕ → Bool
    missing d = not (is_there core1 d)

    committed_same : stored.committed ≡ core.status.committed
    committed_same = committed_status core.status stored status group disk ok t going.fitting.group going.status its.flies its.out.started learns.wants learns.ended review.marks.rest ∙ ap (committed_then (seen core.status)) none

    keeps : KeepsFresh v1
    keeps lv b c copy = let k = tied.good.sound.statuses.kept lv b c copy in (k.0, k.1, k.2.committed, k.2.wanted)

    still : (d : ℕ) → IsTrue (v.missing d) → IsTrue (missing d)
    still d gone = by (is_there core1 d) refl
      where
        by : (b : Bool) → is_there core1 d ≡ b → IsTrue (not b)
        by false is = refl
        by true is = clash_gives (is_there core d) (was_there d is) (not_true_is (is_there core d) (sym (tied.sees.status.missing d) ∙ gone))

    sees : SeesMarks core1 v1 missing
    sees = record { committed = tied.sees.status.committed ∙ ap (marks_of v.beside) (sym committed_same); wanted = wanted_seen; missing_is = λ d. refl; still = still }

    brought : (c : OpenCopy) → core1.copy ≡ Some c → is_running c ≡ true → IsBrought core1 v1 c
    brought c is runs = let b = (opened past old tied c is runs).0 in record {
      target = b.target;
      member = b.member;
      there = b.there;
      part = b.part;
      whole = b.whole;
      beside = b.beside;
    }

    wants : Wants v1 (marks_of v.beside status.wanted) missing (open_after how v.open_copy)
    wants = review_is_wanted core1 new.core v1 missing v.facts members (valid_of old tied.write tied.orderly) left.describes.volumes shows sees keeps owners brought (none_opened past old tied) review

    pub reviewed_alone : IsReviewed
    reviewed_alone = record {
      committed = v.committed;
      missing = missing;
      good = each_keeps tied.votes (Want (marks_of v.beside status.wanted) missing (open_after how v.open_copy)) v1 (after v.committed missing) (wants, refl) good1;
      describes = quiet_lasts tied.votes (Want (marks_of v.beside status.wanted) missing (open_after how v.open_copy)) v1 (after v.committed missing) group (Some u) now (wants, refl) good1 tt left.describes refl refl refl;
      marks = tied.sees.status.committed ∙ ap (marks_of v.beside) (sym committed_same);
      held = λ enough_now. tied.sees.status.held u (was_update past old new index disk ok row buf its_owner returns tied)
          (held_mid core.status stored status group disk ok t going.fitting.group going.status its.flies its.out.started learns.wants learns.ended review.marks.rest none enough_now);
      missing_is = λ d. refl;
      one = λ x same flies. one_remains tied.recorded.committed (same ∙ committed_same)
          (λ y is. was_update past old new index disk ok row buf its_owner returns tied ∙ ap (λ (z : Stamped Status). Some z) (sym (flies y is)))
          (may_stand past old new index disk ok row buf its_owner returns tied);
    }

  -- ---- where it is

  module _ (commit : commits ≡ true) where
    well : ok ≡ true
    well = commits_well (seen core.status) disk ok stored.wanted commit

    wanted_same : stored.wanted ≡ core.status.wanted
    wanted_same = subst (λ b. WantsAtEnd disk b core.status.wanted stored.wanted) well learns.wants

    committed_is : stored.committed ≡ t
    committed_is = committed_value core.status stored status group disk ok t going.fitting.group going.status its.flies its.out.started learns.wants learns.ended review.marks.rest commit

    in_flight_is : unwrap_or stored.in_flight stored.committed ≡ t
    in_flight_is = flies_status core.status stored status group disk ok t going.fitting.group going.status its.flies its.out.started learns.wants learns.ended review.marks.rest commit

    missing_same : (d : ℕ) → is_missing core1 d ≡ is_missing core d
    missing_same d = ap (λ (s : Status). calls_missing s d) wanted_same

    there_same : (d : ℕ) → is_there core1 d ≡ is_there core d
    there_same d = ap (λ (s : Status). members_there group s d) wanted_same

    abbrev done : Option ModelCopy
    done = done_after how v.open_copy

    abbrev cleared : ModelState
    cleared = record v1 { committed = as_marks v.beside u; open_copy = done }

    flies : v.in_flight ≡ Some (as_marks v.beside u)
    flies = left.may.flies

    keeps_done : KeepsFresh cleared
    keeps_done lv b c copy = let k = tied.good.sound.statuses.kept lv b c copy in (k.0, k.1, k.2.flying (as_marks v.beside u) flies, k.2.wanted)

    sees_done : SeesMarks core1 cleared v.missing
    sees_done = record { committed = ap (marks_of v.beside) (sym committed_is); wanted = wanted_seen; missing_is = λ d. tied.sees.status.missing d ∙ ap not (sym (there_same d)); still = λ d gone. gone }

    volumes : HasVolumes cleared v.facts group members
    volumes = let x = left.describes.volumes in record { copies = x.copies; free = x.free; inside = x.inside; some = x.some; notes = x.notes; mark = x.mark; modes = x.modes; history = x.history }

    -- the copy that runs
    running : (c : OpenCopy) → core.copy ≡ Some c → is_running c ≡ true → IsBrought core v c × (is_missing core1 c.pp.disk ≡ false)
    running c is runs = let b = opened past old tied c is runs in (b.0, missing_same c.pp.disk ∙ b.1)

    end_at : (c : OpenCopy) → core.copy ≡ Some c → end_of core1 c ≡ how
    end_at c is = sym (ap (λ (m : Option OpenCopy). option_map_or (end_of core1) m None) is)

    -- one that is whole ends only as done
    whole_done : (c : OpenCopy) → core.copy ≡ Some c → is_running c ≡ true → (e : CopyEnd) → how ≡ Some e → is_whole core1 c ≡ true → (is_cleared core1 c ≡ true) × (e ≡ ending.Done)
    whole_done c is runs e ends all = ⊎_elim (λ gone. clash_gives (is_missing core1 c.pp.disk) gone.0 (running c is runs).1) (λ its_end. its_end) (whole_ends core1 c runs e all (end_at c is ∙ ends))

    -- so none is marked by its end
    marked : (p : Pp) → marked_by_end core1 how p ≡ true → IsMarked cleared p
    marked p is = by how refl is
      where
        at : (e : CopyEnd) → how ≡ Some e → marked_by_end core1 (Some e) p ≡ true → IsMarked cleared p
        at e ends h =
            let r = ends_running core1 e ends in
            let parts = and_parts (not (is_done_end e)) (is_whole core1 r.copy && is_pp p r.copy.pp && (not r.copy.moves || is_held_stale core1 r.copy.pp)) (sym (ap (λ (m : Option OpenCopy). not (is_done_end e) && option_map_or (λ (c : OpenCopy). is_whole core1 c && is_pp p c.pp && (not c.moves || is_held_stale core1 c.pp)) m false) r.is_open) ∙ h) in
            let both = and_parts (is_whole core1 r.copy) (is_pp p r.copy.pp) (and_parts (is_whole core1 r.copy && is_pp p r.copy.pp) (not r.copy.moves || is_held_stale core1 r.copy.pp) parts.1).0 in
            let d = whole_done r.copy r.is_open r.runs e ends both.0 in
            clash_gives (is_done_end e) (ap is_done_end d.1) (not_true_is (is_done_end e) parts.0)

        by : (m : Option CopyEnd) → how ≡ m → marked_by_end core1 m p ≡ true → IsMarked cleared p
        by None ends h = absurd (cc h)
        by (Some e) ends h = at e ends h

    -- the copy that is open runs
    found : (o : ModelCopy) → v.open_copy ≡ Some o → (c : OpenCopy) × (core.copy ≡ Some c) × (is_running c ≡ true)
    found o at = by core.copy refl
      where
        of : (c : OpenCopy) → core.copy ≡ Some c → (b : Bool) → is_running c ≡ b → (x : OpenCopy) × (core.copy ≡ Some x) × (is_running x ≡ true)
        of c is true runs = (c, is, runs)
        of c is false over = absurd (let e : None ≡ Some o = sym (none_opened past old tied (λ d there runs. clash_gives (is_running d) runs (ap is_running (same_Some d c (sym there ∙ is)) ∙ over))) ∙ at in cc)

        by : (m : Option OpenCopy) → core.copy ≡ m → (x : OpenCopy) × (core.copy ≡ Some x) × (is_running x ≡ true)
        by None is = absurd (let e : None ≡ Some o = sym (none_opened past old tied (λ d there runs. let e2 : None ≡ Some d = sym is ∙ there in cc)) ∙ at in cc)
        by (Some c) is = of c is (is_running c) refl

    -- one that ends, and isn't done, isn't whole, and is wanted stale
    stale_then : (e : CopyEnd) → how ≡ Some e → is_done_end e ≡ false → (o : ModelCopy) → v.open_copy ≡ Some o → IsTrue (v.wanted.stale o.target)
    stale_then e ends not_done o at =
        let r = found o at in
        let b = (running r.0 r.1 r.2).0 in
        ap v.wanted.stale (b.target o at) ∙ by r.0 r.1 r.2 b (is_whole core1 r.0) refl
      where
        by : (c : OpenCopy) → core.copy ≡ Some c → is_running c ≡ true → IsBrought core v c → (w : Bool) → is_whole core1 c ≡ w → IsTrue (v.wanted.stale c.pp)
        by c is runs b false part = b.part part
        by c is runs b true all = clash_gives (is_done_end e) (ap is_done_end (whole_done c is runs e ends all).1) not_done

    still_wanted : (p : Pp) → IsTrue (v.wanted.stale p) → IsTrue ((marks_of v.beside status.wanted).stale p)
    still_wanted p is = by (is_beside v.beside p) refl
      where
        by : (b : Bool) → is_beside v.beside p ≡ b → IsTrue ((marks_of v.beside status.wanted).stale p)
        by true beside = beside_stale v.beside status.wanted p beside
        by false off =
            let was : is_wanted_stale core1 p ≡ true = sym (ap (λ (m : Marks). m.stale p) wanted_seen ∙ stale_apart v.beside stored.wanted p off) ∙ is in
            stale_so v.beside status.wanted p (review.marks.stale p ∙ or_true (is_wanted_stale core1 p) (is_entailed core1 p || marked_by_end core1 how p) (inl was))

    open_same : (open_after how v.open_copy ≡ done) ⊎ ((open_after how v.open_copy ≡ None) × ((o : ModelCopy) → done ≡ Some o → IsTrue ((marks_of v.beside status.wanted).stale o.target)))
    open_same = by how refl
      where
        of : (e : CopyEnd) → how ≡ Some e → (b : Bool) → is_done_end e ≡ b
            → (◌≡◌ {A = Option ModelCopy} None (if b then None else v.open_copy)) ⊎ ((◌≡◌ {A = Option ModelCopy} None None) × ((o : ModelCopy) → (if b then None else v.open_copy) ≡ Some o → IsTrue ((marks_of v.beside status.wanted).stale o.target)))
        of e ends true is = inl refl
        of e ends false is = inr (refl, λ o at. still_wanted o.target (stale_then e ends is o at))

        by : (m : Option CopyEnd) → how ≡ m → (open_after m v.open_copy ≡ done_after m v.open_copy) ⊎ ((open_after m v.open_copy ≡ None) × ((o : ModelCopy) → done_after m v.open_copy ≡ Some o → IsTrue ((marks_of v.beside status.wanted).stale o.target)))
        by None ends = inl refl
        by (Some e) ends = of e ends (is_done_end e) refl

    open_there : (o : ModelCopy) → open_after how v.open_copy ≡ Some o → IsFalse (v.missing o.target.disk)
    open_there o = by how
      where
        by : (m : Option CopyEnd) → open_after m v.open_copy ≡ Some o → IsFalse (v.missing o.target.disk)
        by None at = tied.good.sound.statuses.open_there o at
        by (Some e) at = absurd (cc at)

    wants_done : Wants cleared (marks_of v.beside status.wanted) v.missing (open_after how v.open_copy)
    wants_done = review_wants core1 cleared v.missing how status v.facts members (valid_of old tied.write tied.orderly) volumes shows sees_done keeps_done owners marked review.marks (open_after how v.open_copy) open_same open_there

    -- the marks of the update
    abbrev marks_t : Marks
    marks_t = marks_of v.beside t

    -- one that goes on is stale by the update, or wanted so
    not_cleared : (o : ModelCopy) → v.open_copy ≡ Some o → (how ≡ None) ⊎ ((e : CopyEnd) × (how ≡ Some e) × (is_done_end e ≡ false)) → IsTrue (marks_t.stale o.target) ⊎ IsTrue (v.wanted.stale o.target)
    not_cleared o at ends =
        let r = found o at in
        let b = (running r.0 r.1 r.2).0 in
        subst (λ (p : Pp). IsTrue (marks_t.stale p) ⊎ IsTrue (v.wanted.stale p)) (sym (b.target o at)) (of r.0 r.1 r.2 b (is_whole core1 r.0) refl ends)
      where
        parts : (p : Pp) → (x y z : Bool) → is_stale core1 p ≡ x → calls_stale (unwrap_or stored.in_flight stored.committed) p ≡ y → is_wanted_stale core1 p ≡ z → (not (x || y) && not z) ≡ false → IsTrue (marks_t.stale p) ⊎ IsTrue (v.wanted.stale p)
        parts p true y z xs ys zs h = inl (stale_so v.beside t p (sym (ap (λ (s : Status). calls_stale s p) committed_is) ∙ xs))
        parts p false true z xs ys zs h = inl (stale_so v.beside t p (sym (ap (λ (s : Status). calls_stale s p) in_flight_is) ∙ ys))
        parts p false false true xs ys zs h = inr (ap (λ (m : Marks). m.stale p) wanted_seen ∙ stale_so v.beside stored.wanted p zs)
        parts p false false false xs ys zs h = absurd (cc h)

        of : (c : OpenCopy) → core.copy ≡ Some c → is_running c ≡ true → IsBrought core v c → (w : Bool) → is_whole core1 c ≡ w → (how ≡ None) ⊎ ((e : CopyEnd) × (how ≡ Some e) × (is_done_end e ≡ false))
            → IsTrue (marks_t.stale c.pp) ⊎ IsTrue (v.wanted.stale c.pp)
        of c is runs b false part which = inr (b.part part)
        of c is runs b true all (inl none) = by c.moves refl
          where
            by : (m : Bool) → c.moves ≡ m → IsTrue (marks_t.stale c.pp) ⊎ IsTrue (v.wanted.stale c.pp)
            by true moves = inl (beside_stale v.beside t c.pp (b.beside moves))
            by false stays = parts c.pp (is_stale core1 c.pp) (calls_stale (unwrap_or stored.in_flight stored.committed) c.pp) (is_wanted_stale core1 c.pp) refl refl refl (sym (ap (λ m. not m && stays_fresh core1 c.pp) stays) ∙ (goes_on core1 c runs (end_at c is ∙ none)).1 all)
        of c is runs b true all (inr some) = clash_gives (is_done_end some.0) (ap is_done_end (whole_done c is runs some.0 some.1 all).1) some.2

    -- one that is done is fresh by the update
    fresh_then : (e : CopyEnd) → how ≡ Some e → is_done_end e ≡ true → (o : ModelCopy) → v.open_copy ≡ Some o → IsFalse (marks_t.stale o.target)
    fresh_then e ends is_done o at =
        let r = found o at in
        let b = (running r.0 r.1 r.2).0 in
        ap marks_t.stale (b.target o at) ∙ of r.0 r.1 r.2 (is_whole core1 r.0) refl
      where
        neither : (x y : Bool) → not (x || y) ≡ true → x ≡ false
        neither true y h = absurd (cc h)
        neither false y h = refl

        of : (c : OpenCopy) → core.copy ≡ Some c → is_running c ≡ true → (w : Bool) → is_whole core1 c ≡ w → marks_t.stale c.pp ≡ false
        of c is runs false part = clash_gives (is_done_end e) is_done (part_ends core1 c runs e part (end_at c is ∙ ends))
        of c is runs true all =
            let d = whole_done c is runs e ends all in
            let cleared_so = and_parts (not c.moves) (stays_fresh core1 c.pp) d.0 in
            let a = and_parts (not (is_held_stale core1 c.pp)) (not (is_wanted_stale core1 c.pp)) cleared_so.1 in
            let off : is_beside v.beside c.pp ≡ false = ap (λ (x : Option Beside). is_beside x c.pp) (none_beside core c v.beside tied.sees.beside is (not_true_is c.moves cleared_so.0)) in
            stale_apart v.beside t c.pp off ∙ sym (ap (λ (s : Status). calls_stale s c.pp) committed_is) ∙ neither (is_stale core1 c.pp) (calls_stale (unwrap_or stored.in_flight stored.committed) c.pp) a.0

    commits_so : Commits v1 (as_marks v.beside u) done
    commits_so = record { flies = flies; open_same = by_same how refl; open_done = by_done how refl }
      where
        of_same : (e : CopyEnd) → how ≡ Some e → (b : Bool) → is_done_end e ≡ b → (o : ModelCopy) → (if b then None else v.open_copy) ≡ Some o → (v.open_copy ≡ Some o) × (IsTrue (marks_t.stale o.target) ⊎ IsTrue (v.wanted.stale o.target))
        of_same e ends true is o at = absurd (cc at)
        of_same e ends false is o at = (at, not_cleared o at (inr (e, ends, is)))

        by_same : (m : Option CopyEnd) → how ≡ m → (o : ModelCopy) → done_after m v.open_copy ≡ Some o → (v.open_copy ≡ Some o) × (IsTrue (marks_t.stale o.target) ⊎ IsTrue (v.wanted.stale o.target))
        by_same None ends o at = (at, not_cleared o at (inl ends))
        by_same (Some e) ends o at = of_same e ends (is_done_end e) refl o at

        of_done : (e : CopyEnd) → how ≡ Some e → (b : Bool) → is_done_end e ≡ b → (o : ModelCopy) → v.open_copy ≡ Some o → ((if b then None else v.open_copy) ≡ Some o) ⊎ IsFalse (marks_t.stale o.target)
        of_done e ends true is o at = inr (fresh_then e ends is o at)
        of_done e ends false is o at = inl at

        by_done : (m : Option CopyEnd) → how ≡ m → (o : ModelCopy) → v.open_copy ≡ Some o → (done_after m v.open_copy ≡ Some o) ⊎ IsFalse (marks_t.stale o.target)
        by_done None ends o at = inl at
        by_done (Some e) ends o at = of_done e ends (is_done_end e) refl o at

    abbrev has_it : Disks
    has_it = with_disk (has core.status.writes.written) disk

    have : (d : ℕ) → IsTrue (has_it d) → v1.media.status d ≡ Some (as_marks v.beside u)
    have d is = ⊎_elim
        (λ before. still_stands past old new index disk ok row buf its_owner returns tied d (tied.sees.status.written d before ∙ flies))
        (λ here. ap (statuses_of v.beside group.id now) (eqb-true d disk here) ∙ stands_here past old new index disk ok row buf its_owner returns tied well)
        (or_either (has core.status.writes.written d) (d == disk) is)

    may_commit : Commit tied.votes v1 (as_marks v.beside u) has_it done (marks_of v.beside status.wanted) (open_after how v.open_copy)
    may_commit = record {
      commits = commits_so;
      enough = tied.setting.are_votes.writes has_it ∙ enough core.status stored status group disk ok t going.fitting.group going.status its.flies its.out.started learns.wants learns.ended review.marks.rest commit;
      have = have;
      marks = wants_done;
    }

    pub reviewed_committed : IsReviewed
    reviewed_committed = record {
      committed = as_marks v.beside u;
      missing = v.missing;
      good = each_keeps tied.votes (CommitUpdate (as_marks v.beside u) has_it done (marks_of v.beside status.wanted) (open_after how v.open_copy)) v1 (after (as_marks v.beside u) v.missing) (may_commit, refl) good1;
      describes = quiet_lasts tied.votes (CommitUpdate (as_marks v.beside u) has_it done (marks_of v.beside status.wanted) (open_after how v.open_copy)) v1 (after (as_marks v.beside u) v.missing) group (Some u) now (may_commit, refl) good1 tt left.describes refl refl refl;
      marks = ap (marks_of v.beside) (sym committed_is);
      held = λ enough_now. refl;
      missing_is = λ d. tied.sees.status.missing d ∙ ap not (sym (there_same d));
      one = λ x same flies. record {
        stands = λ d r is own stamp. ap (λ (y : Stamped Status). y.value) (one_stands past old new index disk ok row buf its_owner returns tied d r is own stamp) ∙ sym committed_is ∙ sym same;
        flies = λ y is stamp. ap (λ (z : Stamped Status). z.value) (flies y is) ∙ sym committed_is ∙ sym same;
      };
    }
