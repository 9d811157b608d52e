-- The end of a write of the update, tied.
use Rattle.std.proofs.Common.{◌≡◌, ⊎_elim, ℕ, Bool, true, false, ◌&&◌, ◌==◌, not, eqb-true, List, Option, Some, None, refl, sym, ap, subst, ◌∙◌}
use Rattle.std.specs.Prelude.{IsTrue}
use Rattle.std.specs.List.{remove}
use Rattle.std.specs.Option.{option_map, option_map_or}
use Rattle.std.proofs.lemmas.Bool.{and_parts}
use Rattle.std.proofs.lemmas.Option.{same_Some}
use Rattle.lvm_num.specs.declared.descriptor.Descriptor.{Descriptor}
use Rattle.lvm_num.specs.declared.status.Status.{Status}
use Rattle.lvm_num.specs.Buffer.{Buffer}
use Rattle.lvm_num.specs.Descriptor.{is_member}
use Rattle.lvm_num.specs.Disks.{has}
use Rattle.lvm_num.specs.Note.{IsNote}
use Rattle.lvm_num.specs.Record.{Stamped}
use Rattle.lvm_num.specs.Status.{calls_missing}
use Rattle.lvm_num.proofs.Booleans.{clash_gives}
use Rattle.lvm_vol.specs.Facts.{Fact}
use Rattle.lvm_disk.specs.Device.{Flight, HasSectors, image_of}
use Rattle.lvm_kept.specs.Contents.{Contents, contents_of}
use Rattle.lvm_kept.specs.Torn.{RecordWrite}
use Rattle.lvm_status.specs.Update.{Stored, Updates, is_held, is_owed, seen}
use Rattle.lvm_status.specs.Calls.{comes_held, with_end as with_write_end}
use Rattle.lvm_rec.specs.declared.homes.Homes.{Homes}
use Rattle.lvm_session.specs.declared.bringing.OpenCopy.{OpenCopy}
use Rattle.lvm_session.specs.declared.bringing.CopyEnd.{CopyEnd}
use Rattle.lvm_session.specs.declared.flown.Flown.{Flown}
use Rattle.lvm_session.specs.declared.flown.Owner.{Owner}
use Rattle.lvm_session.specs.declared.flown.Owner.TheVariants as owner
use Rattle.lvm_session.specs.State.{Core, State, is_there, state}
use Rattle.lvm_session.specs.Bringing.{after_copy_end, with_end}
use Rattle.lvm_session.specs.Ends.{Returns, StatusLearns}
use Rattle.lvm_session.specs.Sound.{IsGoing, IsSound}
use Rattle.lvm_invariant.specs.State.{Marks, ModelState}
use Rattle.lvm_invariant.specs.Good.{Good}
use Rattle.lvm_crash.specs.Session.{Describes, as_marks, marks_of}
use Rattle.lvm_even.specs.Members.{members_showing}
use Rattle.lvm_crash.proofs.RecordsLemmas.Quiet.{update_goes_on, updates_last}
use Rattle.lvm_crash.specs.Owned.{OnlyUpdateSince}
use Rattle.lvm_crash.specs.Records.{statuses_of}
use Rattle.lvm_tie.proofs.TiedLemmas.Recorded.{records_last, shows_last, shows_update}
use Rattle.lvm_tie.proofs.AmongLemmas.{not_true, or_either}
use Rattle.lvm_tie.specs.Out.{AreNotes, CarriesStep, CarryTheirs, IsUpdateWrite, IsWriteOf, MayUpdate}
use Rattle.lvm_tie.specs.Seen.{Sees, update_of}
use Rattle.lvm_tie.specs.Tied.{IsOrderly, IsTied, ShowsRecords, ShowsStatus, CommittedIsOne}
use Rattle.lvm_tie.proofs.OutLemmas.Ended.{HasEnded}
use Rattle.lvm_tie.specs.Near.{IsRunning}
use Rattle.lvm_tie.proofs.NearLemmas.{ends_running, near_ties, with_end_status}
use Rattle.lvm_tie.specs.Statuses.{StatusEndTies}
use Rattle.lvm_tie.proofs.UpdateLemmas.{all_written, committed_new, decided, flies_new, held_new, held_over, learned, lost_then, missing_then, none_started, none_written, over_committed, over_new, owed_before, owed_beside, owed_still, stamp_then, written_new, written_then}
use Rattle.lvm_tie.proofs.StatusesLemmas.Reviewed.{IsReviewed, after, core1, how, reviewed_alone, reviewed_committed, v1, was_there}
use Rattle.lvm_tie.proofs.StatusesLemmas.Update.{IsWritten, ended, its_row, kept, may_update, moves, slots_beside, stands_here, still_stands, written}

-- the end of the copy leaves power and slots
same_power : (core : Core) (e : Option CopyEnd) → (with_end core e).power ≡ core.power
same_power core None = refl
same_power core (Some e) = by core.copy
  where
    by : (m : Option OpenCopy) → (option_map_or (λ (c : OpenCopy). after_copy_end core c e) m core).power ≡ core.power
    by None = refl
    by (Some c) = refl

same_homes : (core : Core) (e : Option CopyEnd) → (with_end core e).homes ≡ core.homes
same_homes core None = refl
same_homes core (Some e) = by core.copy
  where
    by : (m : Option OpenCopy) → (option_map_or (λ (c : OpenCopy). after_copy_end core c e) m core).homes ≡ core.homes
    by None = refl
    by (Some c) = refl

module _ (past : List Fact) (old new : State) (index disk : ℕ) (ok : Bool) (row : Flown) (buf : Buffer) (its_owner : row.owner ≡ owner.Status disk) (returns : Returns old new index row ok buf) (tied : IsTied past old)
    (learns : StatusLearns old.core index disk ok buf new.core) (sectors : HasSectors new.device) (sound : IsSound new) where
  abbrev core : Core
  core = old.core

  abbrev v : ModelState
  v = tied.view

  abbrev group : Descriptor
  group = core.descriptor

  abbrev stored : Stored
  stored = learns.status

  abbrev status : Stored
  status = new.core.status

  abbrev before : Core
  before = core1 past old new index disk ok row buf its_owner returns tied learns

  abbrev end : Option CopyEnd
  end = how past old new index disk ok row buf its_owner returns tied learns

  -- with the marks that are wanted, before its copy ends
  abbrev core2 : Core
  core2 = record before { status = status }

  core_is : new.core ≡ with_end core2 end
  core_is = learns.reviews.is ∙ with_end_status before end status

  whole : new ≡ state new.device (with_end core2 end)
  whole k = record { device = new.device; core = core_is k }

  going : IsGoing core
  going = (tied.orderly.sound.on tied.orderly.on).going

  abbrev back : HasEnded old.device new.device row.ticket ok buf tied.media
  back = ended past old new index disk ok row buf its_owner returns tied

  abbrev its : IsWritten old.device core v tied.write back.flight disk
  its = written past old new index disk ok row buf its_owner returns tied

  abbrev w : RecordWrite
  w = its.write

  abbrev t : Status
  t = its.value

  abbrev u : Stamped Status
  u = record { stamp = core.status.stamp; value = t }

  abbrev now : Contents
  now = contents_of (image_of old.device.sizes back.media)

  abbrev commits : Bool
  commits = comes_held (seen core.status) (with_write_end (seen core.status) disk ok stored.wanted)

  abbrev mid : Updates
  mid = learned (seen core.status) disk ok stored.wanted commits

  abbrev over : Bool
  over = is_held mid && not (is_owed mid)

  abbrev moved_view : ModelState
  moved_view = v1 past old new index disk ok row buf its_owner returns tied learns

  stamp_is : status.stamp ≡ core.status.stamp
  stamp_is = stamp_then core.status stored status group disk ok t going.fitting.group going.status its.flies its.out.started learns.wants learns.ended learns.reviews.marks.rest

  there_new : (d : ℕ) → is_there core2 d ≡ is_there before d
  there_new d = ap (λ (b : Bool). is_member group d && not b) (learns.reviews.marks.missing d)

  was_here : (d : ℕ) → is_there core2 d ≡ true → is_there core d ≡ true
  was_here d there = was_there past old new index disk ok row buf its_owner returns tied learns d (sym (there_new d) ∙ there)

  next : MayUpdate group status learns.homes (image_of old.device.sizes back.media)
  next = may_update past old new index disk ok row buf its_owner returns tied status learns.homes sectors learns.flips stamp_is
      (λ badly. learns.reviews.marks.missing disk ∙ lost_then disk ok core.status.wanted stored.wanted learns.wants badly)
      (λ d there. missing_then disk ok core.status.wanted stored.wanted learns.wants d (sym (learns.reviews.marks.missing d) ∙ there))
      (owed_still core.status stored status group disk ok t going.fitting.group going.status its.flies its.out.started learns.wants learns.ended learns.reviews.marks.rest)

  notes : AreNotes core2
  notes d items flies = subst (λ (n : ℕ). IsNote (record { stamp = n; entries = items.items })) (sym (ap (λ st. st.epoch) stamp_is)) (tied.notes d items flies)

  carries : (x : ModelState) → ((j : ℕ) → x.queue j ≡ v.queue j) → (g : Flight) (o : Owner) → CarriesStep core v g o → CarriesStep core2 x g o
  carries x same g (owner.Data id number) carried = carried
  carries x same g (owner.Status d) carried = carried
  carries x same g (owner.Note d) carried = carried
  carries x same g owner.Copy carried = λ c q is writing at. carried c q is writing (sym (same c.place) ∙ at)

  -- what stands of it on the disks that have it
  have : (d : ℕ) → written_then (seen core.status) disk ok d ≡ true → moved_view.media.status d ≡ Some (as_marks v.beside u)
  have d = by ok refl
    where
      before_it : has core.status.writes.written d ≡ true → moved_view.media.status d ≡ Some (as_marks v.beside u)
      before_it had = still_stands past old new index disk ok row buf its_owner returns tied d (tied.sees.status.written d had ∙ (moves past old new index disk ok row buf its_owner returns tied (λ n. false)).may.flies)

      here : ok ≡ true → (d == disk) ≡ true → moved_view.media.status d ≡ Some (as_marks v.beside u)
      here well same = ap (statuses_of v.beside group.id now) (eqb-true d disk same) ∙ stands_here past old new index disk ok row buf its_owner returns tied well

      by : (b : Bool) → ok ≡ b → written_then (seen core.status) disk b d ≡ true → moved_view.media.status d ≡ Some (as_marks v.beside u)
      by false badly had = before_it had
      by true well had = ⊎_elim before_it (here well) (or_either (has core.status.writes.written d) (d == disk) had)

  recorded : (status.in_flight ≡ None → ShowsStatus group status now) → ShowsRecords group status now
  recorded settled = records_last group core.status status (contents_of (image_of old.device.sizes tied.media)) now tied.recorded.records was_here
      (λ d. ap (λ (c : Contents). c.descriptor d) (kept past old new index disk ok row buf its_owner returns tied).rest) settled

  module _ (reviewed : IsReviewed past old new index disk ok row buf its_owner returns tied learns) where
    abbrev v2 : ModelState
    v2 = after past old new index disk ok row buf its_owner returns tied learns reviewed.committed reviewed.missing

    -- the state with this update in flight
    abbrev with_update_in : Option (Stamped Marks) → ModelState
    with_update_in x = record v2 { in_flight = x }

    sees : (x : Option (Stamped Marks)) → x ≡ option_map (as_marks v.beside) (update_of status) → ((d : ℕ) → has status.writes.written d ≡ true → moved_view.media.status d ≡ x)
        → ((y : Stamped Status) → update_of status ≡ Some y → is_held (seen status) ≡ true → reviewed.committed ≡ as_marks v.beside y) → Sees past core2 (record (with_update_in x) { open_copy = v.open_copy })
    sees x flies stands held = record {
      queue = tied.sees.queue;
      facts = tied.sees.facts;
      status = record {
        committed = reviewed.marks ∙ ap (marks_of v.beside) (sym (committed_new core.status stored status group disk ok t going.fitting.group going.status its.flies its.out.started learns.wants learns.ended learns.reviews.marks.rest));
        in_flight = flies;
        wanted = refl;
        started = λ d. refl;
        written = stands;
        held = held;
        missing = λ d. reviewed.missing_is d ∙ ap not (sym (there_new d));
      };
      notes = record {
        cache = tied.sees.notes.cache;
        home = λ d lv g n there. tied.sees.notes.home d lv g n (was_here d there);
        flying = tied.sees.notes.flying;
      };
      open_copy = tied.sees.open_copy;
      step_write = tied.sees.step_write;
      beside = tied.sees.beside;
    }

    orderly : (write : Option RecordWrite) → IsWriteOf status learns.homes status.in_flight write → IsOrderly (state new.device (with_end core2 end)) write
    orderly write update = subst (λ (s : State). IsOrderly s write) whole (record {
      sound = sound;
      on = ap (λ (c : Core). c.power) core_is ∙ same_power core2 end ∙ tied.orderly.on;
      update = subst (λ (h : Homes). IsWriteOf status h status.in_flight write) (sym (ap (λ (c : Core). c.homes) core_is ∙ same_homes core2 end)) update;
    })

    runs : (e : CopyEnd) → end ≡ Some e → IsRunning core2
    runs e is = let r = ends_running before e is in record { copy = r.copy; is_open = r.is_open; runs = r.runs }

    tied_with : (x : Option (Stamped Marks)) (write : Option RecordWrite) → Sees past core2 (record (with_update_in x) { open_copy = v.open_copy }) → Good tied.votes (with_update_in x)
        → Describes (with_update_in x) v.facts group (update_of status) now → OnlyUpdateSince new.device write (update_of status) → IsWriteOf status learns.homes status.in_flight write
        → (status.in_flight ≡ None → ShowsStatus group status now) → ((y : Stamped Status) → update_of status ≡ Some y → y ≡ u) → IsTied past new
    tied_with x write sees_it good_it describes_it since update settled flies_one = subst (IsTied past) (sym whole) (near_ties past new.device core2 end (record {
      votes = tied.votes;
      media = back.media;
      setting = record {
        are_votes = tied.setting.are_votes;
        told = back.told;
        own = tied.setting.own;
      };
      view = with_update_in x;
      open_copy = v.open_copy;
      sees = sees_it;
      ended = refl;
      good = good_it;
      describes = subst (λ (sizes : List ℕ). Describes (with_update_in x) v.facts group (update_of status) (contents_of (image_of sizes back.media))) (sym back.sizes) describes_it;
      write = write;
      since = since;
      recorded = record {
        next = subst (λ (sizes : List ℕ). MayUpdate group status learns.homes (image_of sizes back.media)) (sym back.sizes) next;
        members = λ d member first. subst (λ (sizes : List ℕ). IsTrue (members_showing (contents_of (image_of sizes back.media)) group d)) (sym back.sizes)
            (ap (λ (c : Contents). members_showing c group d) (kept past old new index disk ok row buf its_owner returns tied).rest ∙ tied.recorded.members d member first);
        records = subst (λ (sizes : List ℕ). ShowsRecords group status (contents_of (image_of sizes back.media))) (sym back.sizes) (recorded settled);
        committed = subst (λ (sizes : List ℕ). CommittedIsOne reviewed.committed.stamp group status (contents_of (image_of sizes back.media))) (sym back.sizes)
            (reviewed.one status (committed_new core.status stored status group disk ok t going.fitting.group going.status its.flies its.out.started learns.wants learns.ended learns.reviews.marks.rest) flies_one);
      };
      notes = notes;
      copy_aimed = tied.copy_aimed;
      carry = subst (λ (fs : List Flight). CarryTheirs core2 (with_update_in x) fs (remove core.flying index)) (sym back.removes.is)
          ((its_row past old new index disk ok row buf its_owner returns tied core2 (with_update_in x)).carry (carries (with_update_in x) (λ j. refl)) (subst (λ (fs : List Flight). CarryTheirs core v fs core.flying) back.removes.was tied.carry));
    }) runs (orderly write update))

    flies : v.in_flight ≡ Some (as_marks v.beside u)
    flies = (moves past old new index disk ok row buf its_owner returns tied (λ n. false)).may.flies

    -- the update goes on
    goes_on : over ≡ false → IsTied past new
    goes_on still =
        let in_flight : status.in_flight ≡ Some t = flies_new core.status stored status group disk ok t going.fitting.group going.status its.flies its.out.started learns.wants learns.ended learns.reviews.marks.rest still in
        let update_now : update_of status ≡ Some u = (λ k. option_map (λ (y : Status). let r : Stamped Status = record { stamp = stamp_is k; value = y } in r) (in_flight k)) in
        tied_with (Some (as_marks v.beside u)) (Some w)
        (sees (Some (as_marks v.beside u)) (ap (option_map (as_marks v.beside)) (sym update_now))
        (λ d has_it. have d (sym (written_new core.status stored status group disk ok t going.fitting.group going.status its.flies its.out.started learns.wants learns.ended learns.reviews.marks.rest still d) ∙ has_it))
        (λ y is enough. reviewed.held (sym (held_new core.status stored status group disk ok t going.fitting.group going.status its.flies its.out.started learns.wants learns.ended learns.reviews.marks.rest still) ∙ enough) ∙ ap (as_marks v.beside) (same_Some u y (sym update_now ∙ is))))
        (subst (λ (o : Option (Stamped Marks)). Good tied.votes (with_update_in o)) flies reviewed.good)
        (subst (λ (o : Option (Stamped Status)). Describes (with_update_in (Some (as_marks v.beside u))) v.facts group o now) (sym update_now) (subst (λ (o : Option (Stamped Marks)). Describes (with_update_in o) v.facts group (Some u) now) flies reviewed.describes))
        (subst (λ (o : Option (Stamped Status)). OnlyUpdateSince new.device (Some w) o) (sym update_now) (update_goes_on w u old.device new.device back.step (back.planned w) its.since))
        (subst (λ (m : Option Status). IsWriteOf status learns.homes m (Some w)) (sym in_flight) (update still))
        (λ none. absurd (let e : None ≡ Some t = sym none ∙ in_flight in cc))
        (λ y is. same_Some y u (sym is ∙ update_now))
      where
        update : over ≡ false → IsUpdateWrite status learns.homes t w
        update still = record {
          is_status = its.update.is_status;
          stamp = its.update.stamp ∙ sym stamp_is;
          content = its.update.content;
          targets = λ d owed. its.update.targets d (owed_before core.status stored status group disk ok t going.fitting.group going.status its.flies its.out.started learns.wants learns.ended learns.reviews.marks.rest still d owed);
          slots = λ d owed. its.update.slots d (owed_before core.status stored status group disk ok t going.fitting.group going.status its.flies its.out.started learns.wants learns.ended learns.reviews.marks.rest still d owed)
              ∙ sym (slots_beside ok disk core.homes learns.homes learns.flips d (owed_beside core.status stored status group disk ok t going.fitting.group going.status its.flies its.out.started learns.wants learns.ended learns.reviews.marks.rest still d owed));
        }

    -- the update has ended
    ends : over ≡ true → IsTied past new
    ends done =
        let none : status.in_flight ≡ None = over_new core.status stored status group disk ok t going.fitting.group going.status its.flies its.out.started learns.wants learns.ended learns.reviews.marks.rest done in
        let no_update : update_of status ≡ None = ap (option_map (λ (y : Status). let r : Stamped Status = record { stamp = status.stamp; value = y } in r)) none in
        let last = updates_last.ends tied.votes v2 group now u reviewed.good reviewed.describes
        (reviewed.held (held_over core.status stored status group disk ok t going.fitting.group going.status its.flies its.out.started learns.wants learns.ended learns.reviews.marks.rest done))
        (none_started core.status stored status group disk ok t going.fitting.group going.status its.flies its.out.started learns.wants learns.ended learns.reviews.marks.rest done) in
        tied_with None None
        (sees None (ap (option_map (as_marks v.beside)) (sym no_update))
        (λ d has_it. clash_gives (has status.writes.written d) has_it (none_written core.status stored status group disk ok t going.fitting.group going.status its.flies its.out.started learns.wants learns.ended learns.reviews.marks.rest done d))
        (λ y is enough. absurd (let e : None ≡ Some y = sym no_update ∙ is in cc)))
        last.0
        (subst (λ (o : Option (Stamped Status)). Describes (with_update_in None) v.facts group o now) (sym no_update) last.1)
        (subst (λ (o : Option (Stamped Status)). OnlyUpdateSince new.device None o) (sym no_update) tt)
        (subst (λ (m : Option Status). IsWriteOf status learns.homes m None) (sym none) tt)
        (λ over_now. record {
          stands = u;
          committed = sym (over_committed core.status stored status group disk ok t going.fitting.group going.status its.flies its.out.started learns.wants learns.ended learns.reviews.marks.rest done);
          own = reviewed.describes.shown.statuses.own u refl;
          stated = λ d there.
              let parts = and_parts (is_member group d) (not (calls_missing status.wanted d)) there in
              let present : calls_missing stored.wanted d ≡ false = sym (learns.reviews.marks.missing d) ∙ not_true (calls_missing status.wanted d) parts.1 in
              shows_update v2 v.facts group u now reviewed.describes d (have d (all_written core.status stored status group disk ok t going.fitting.group going.status its.flies its.out.started learns.wants learns.ended learns.reviews.marks.rest done d parts.0 present));
          last = shows_last tied.votes v2 v.facts group u now reviewed.describes reviewed.good.found (reviewed.held (held_over core.status stored status group disk ok t going.fitting.group going.status its.flies its.out.started learns.wants learns.ended learns.reviews.marks.rest done)) flies;
        })
        (λ y is. absurd (let e : None ≡ Some y = sym no_update ∙ is in cc))

    reviewed_ties : IsTied past new
    reviewed_ties = ⊎_elim ends goes_on (decided over)

  pub status_ends_tied : IsTied past new
  status_ends_tied = ⊎_elim
      (λ commit. reviewed_ties (reviewed_committed past old new index disk ok row buf its_owner returns tied learns commit))
      (λ none. reviewed_ties (reviewed_alone past old new index disk ok row buf its_owner returns tied learns none))
      (decided commits)

pub status_end_ties : StatusEndTies
status_end_ties index disk ok past old new tied sound event =
    let ends = event.1 in status_ends_tied past old new index disk ok ends.row ends.buf ends.own ends.returns tied ends.learns event.0 sound
