-- The write of a note that fails, tied: its disk is missing.
use Rattle.std.proofs.Common.{◌≡◌, inl, inr, ℕ, ◌^◌, ◌<◌, Bool, true, false, ◌&&◌, ◌==◌, not, List, Option, Some, None, refl, sym, ap, subst, ◌∙◌, arith}
use Rattle.std.specs.Prelude.{IsTrue, ◌≢◌, if◌then◌else◌}
use Rattle.std.specs.List.{remove}
use Rattle.std.specs.Option.{option_map, option_map_or}
use Rattle.std.proofs.lemmas.Bool.{cases_eq, and_parts, ne_eqb}
use Rattle.std.proofs.lemmas.Bool.Decides.{nat_tests}
use Rattle.lvm_num.specs.declared.descriptor.Descriptor.{Descriptor}
use Rattle.lvm_num.specs.declared.record.Stamp.{Stamp}
use Rattle.lvm_num.specs.declared.status.Status.{Status}
use Rattle.lvm_num.specs.Buffer.{Buffer}
use Rattle.lvm_num.specs.Descriptor.{is_member}
use Rattle.lvm_num.specs.Disks.{Disks, has}
use Rattle.lvm_num.specs.Note.{IsNote}
use Rattle.lvm_num.specs.Record.{Stamped}
use Rattle.lvm_num.specs.Status.{calls_missing}
use Rattle.lvm_num.proofs.Booleans.{clash_gives}
use Rattle.lvm_vol.specs.Facts.{Fact}
use Rattle.lvm_disk.specs.Device.{Flight, Image, image_of}
use Rattle.lvm_kept.specs.Contents.{contents_of}
use Rattle.lvm_kept.specs.Torn.{RecordWrite}
use Rattle.lvm_mwc.specs.declared.notes.DiskNotes.{DiskNotes}
use Rattle.lvm_mwc.specs.Cache.{after_end as after_note_end, flight_on, notes_on}
use Rattle.lvm_mwc.specs.Notes.{names_group}
use Rattle.lvm_status.specs.Update.{Stored, is_held, seen}
use Rattle.lvm_steps.specs.Behind.{StampsBefore}
use Rattle.lvm_commit.specs.Committed.{next_stamp}
use Rattle.lvm_rec.specs.declared.homes.Homes.{Homes}
use Rattle.lvm_session.specs.declared.bringing.OpenCopy.{OpenCopy}
use Rattle.lvm_session.specs.declared.bringing.CopyEnd.{CopyEnd}
use Rattle.lvm_session.specs.declared.flown.Flown.{Flown}
use Rattle.lvm_session.specs.declared.flown.Owner.{Owner}
use Rattle.lvm_session.specs.declared.flown.Owner.TheVariants as owner
use Rattle.lvm_session.specs.State.{Core, State, state, is_there}
use Rattle.lvm_session.specs.Judging.{is_missing, is_running}
use Rattle.lvm_session.specs.Bringing.{copy_ends, with_end}
use Rattle.lvm_session.specs.Ends.{LosesDisk, NoteLearns, Returns, with_return}
use Rattle.lvm_session.specs.Marks.{Reviews}
use Rattle.lvm_session.specs.Sound.{IsGoing, IsSound}
use Rattle.lvm_keeps_events.proofs.EndsLemmas.NoteEnd.{beside, none_here, flight_beside}
use Rattle.lvm_invariant.specs.State.{Groups, Marks, ModelState}
use Rattle.lvm_invariant.specs.EndNote.{after_note}
use Rattle.lvm_invariant.specs.Events.{EndNote, Want}
use Rattle.lvm_invariant.specs.Good.{Good}
use Rattle.lvm_invariant.specs.Want.{Wants, after_wants}
use Rattle.lvm_invariant.proofs.EventsLemmas.Each.{each_keeps}
use Rattle.lvm_crash.specs.Session.{Describes, as_marks, marks_of}
use Rattle.lvm_even.specs.Members.{members_showing}
use Rattle.lvm_crash.specs.Flights.{Matches}
use Rattle.lvm_crash.proofs.RecordsLemmas.Quiet.{quiet_lasts, updates_last}
use Rattle.lvm_crash.specs.Owned.{IsNoteFlight, OnlyUpdateSince}
use Rattle.lvm_crash.specs.Records.{flying_after}
use Rattle.lvm_tie.proofs.StateLemmas.{there_first}
use Rattle.lvm_tie.proofs.TiedLemmas.Orderly.{IsNoteOut, valid_of}
use Rattle.lvm_tie.proofs.TiedLemmas.Tied.{tied_matches}
use Rattle.lvm_tie.proofs.AmongLemmas.{not_true}
use Rattle.lvm_tie.proofs.TiedLemmas.Recorded.{NoMoreThere, no_update_of, records_last, shows_last, shows_update, status_lasts, one_remains}
use Rattle.lvm_tie.specs.Out.{AreNotes, CarriesStep, CarryTheirs, IsWriteOf, MayUpdate}
use Rattle.lvm_tie.specs.Seen.{Sees, SeesNote, update_of}
use Rattle.lvm_tie.specs.Tied.{IsOrderly, IsTied, ShowsRecords, ShowsStatus, CommittedIsOne}
use Rattle.lvm_tie.proofs.OutLemmas.Ended.{HasEnded}
use Rattle.lvm_tie.specs.Near.{IsNear, IsRunning, open_after}
use Rattle.lvm_tie.specs.Wanted.{HasOwners, IsBrought, KeepsFresh, SeesMarks}
use Rattle.lvm_tie.proofs.NearLemmas.{ends_running, near_ties, with_end_status}
use Rattle.lvm_tie.proofs.WantedLemmas.Reviewing.{none_opened, opened, review_is_wanted}
use Rattle.lvm_tie.proofs.NotesLemmas.Ended.{ended, here_too, its_row, none_is_some, not_here, out, own, own_sector, since_ended}
use Rattle.lvm_tie.proofs.NotesLemmas.Landing.{HasLanded, has_landed, same_descriptors, same_members, same_statuses, update_may, may_stand}
use Rattle.lvm_tie.proofs.OutLemmas.Losing as losing

-- the end of a copy leaves power and slots as they were
end_leaves : (core : Core) (how : Option CopyEnd) → ((with_end core how).power ≡ core.power) × ((with_end core how).homes ≡ core.homes)
end_leaves core None = (refl, refl)
end_leaves core (Some how) = by core.copy
  where
    by : (m : Option OpenCopy) → ((option_map_or (λ (c : OpenCopy). Rattle.lvm_session.specs.Bringing.after_copy_end core c how) m core).power ≡ core.power)
        × ((option_map_or (λ (c : OpenCopy). Rattle.lvm_session.specs.Bringing.after_copy_end core c how) m core).homes ≡ core.homes)
    by None = (refl, refl)
    by (Some c) = (refl, refl)

module _ (past : List Fact) (old new : State) (at disk : ℕ) (row : Flown) (buf : Buffer) (its_owner : row.owner ≡ owner.Note disk) (returns : Returns old new at row false buf) (learned : NoteLearns old.core at disk false buf new.core) (tied : IsTied past old) (sound : IsSound new) where
  abbrev core : Core
  core = old.core

  abbrev v : ModelState
  v = tied.view

  abbrev group : Descriptor
  group = core.descriptor

  -- the status once the disk is missing, and once it is reviewed
  abbrev lost : Stored
  lost = learned.0

  abbrev status : Stored
  status = new.core.status

  loses : LosesDisk disk core.status lost
  loses = learned.1

  abbrev core1 : Core
  core1 = record (with_return core at buf) { cache = after_note_end core.cache disk false }

  -- before the review, and after it but for the end of the copy
  abbrev core2 : Core
  core2 = record core1 { status = lost }

  abbrev core3 : Core
  core3 = record core1 { status = status }

  review : Reviews core2 new.core
  review = learned.2

  abbrev how : Option CopyEnd
  how = copy_ends core2

  going : IsGoing core
  going = (tied.orderly.sound.on tied.orderly.on).going

  -- its transfer
  abbrev its_end : HasEnded old.device new.device row.ticket false buf tied.media
  its_end = ended past old new at disk false row buf its_owner returns tied

  abbrev f : Flight
  f = its_end.flight

  abbrev was : Image
  was = image_of old.device.sizes tied.media

  abbrev is : Image
  is = image_of old.device.sizes its_end.media

  abbrev its_own : IsNoteFlight v f
  its_own = own past old new at disk false row buf its_owner returns tied

  abbrev its_out : IsNoteOut core f disk
  its_out = out past old new at disk false row buf its_owner returns tied

  -- ---- the disk is missing

  abbrev missing : ℕ → Bool
  missing d = not (is_there core2 d)

  -- one that is there was, and is another
  pub record WasThere (d : ℕ) : Type 0 where
    pub member : is_member group d ≡ true
    pub there : is_missing core d ≡ false
    pub other : (d == disk) ≡ false

  was_there : (d : ℕ) → is_there core2 d ≡ true → WasThere d
  was_there d there =
      let parts = and_parts (is_member group d) (not (calls_missing lost.wanted d)) there in
      let now = by (d == disk) refl (sym (loses.wants.missing d) ∙ not_true (calls_missing lost.wanted d) parts.1) in
      record { member = parts.0; there = now.0; other = now.1 }
    where
      by : (b : Bool) → (d == disk) ≡ b → (if b then true else is_missing core d) ≡ false → (is_missing core d ≡ false) × ((d == disk) ≡ false)
      by true test h = absurd (cc h)
      by false test h = (h, test)

  was_in : (d : ℕ) → is_there core2 d ≡ true → is_there core d ≡ true
  was_in d there = let w = was_there d there in let member = w.member in let gone = w.there in λ t. member t && not (gone t)

  abbrev members : Disks
  members = members_showing (contents_of was) group

  shows : (d : ℕ) → IsTrue (is_there core2 d) → IsTrue (members d)
  shows d there = let w = was_there d there in tied.recorded.members d w.member (there_first past old tied d w.there)

  -- as the status was, with one disk less
  committed_lost : lost.committed ≡ core.status.committed
  committed_lost = losing.committed_same core.status lost lost disk group going.fitting.group going.status loses refl

  marks_lost : marks_of v.beside lost.wanted ≡ marks_of v.beside core.status.wanted
  marks_lost = losing.same_marks v.beside disk core.status.wanted lost.wanted loses.wants

  still : (d : ℕ) → IsTrue (v.missing d) → IsTrue (missing d)
  still d gone = by (is_there core2 d) refl
    where
      by : (b : Bool) → is_there core2 d ≡ b → IsTrue (not b)
      by false there = refl
      by true there = clash_gives (is_there core d) (was_in d there) (not_true (is_there core d) (sym (tied.sees.status.missing d) ∙ gone))

  sees_marks : SeesMarks core2 v missing
  sees_marks = record { committed = tied.sees.status.committed ∙ ap (marks_of v.beside) (sym committed_lost); wanted = tied.sees.status.wanted ∙ sym marks_lost; missing_is = λ d. refl; still = still }

  keeps : KeepsFresh v
  keeps lv b c copy = let k = tied.good.sound.statuses.kept lv b c copy in (k.0, k.1, k.2.committed, k.2.wanted)

  owners : HasOwners v
  owners = tied.good.sound.tied.owner

  brought : (c : OpenCopy) → core2.copy ≡ Some c → is_running c ≡ true → IsBrought core2 v c
  brought c is runs = let b = (opened past old tied c is runs).0 in record {
    target = b.target;
    member = b.member;
    there = b.there;
    part = b.part;
    whole = b.whole;
    beside = b.beside;
  }

  wants : Wants v (marks_of v.beside status.wanted) missing (open_after how v.open_copy)
  wants = review_is_wanted core2 new.core v missing v.facts members (valid_of old tied.write tied.orderly) tied.describes.volumes shows sees_marks keeps owners brought (none_opened past old tied) review

  abbrev v1 : ModelState
  v1 = after_wants v (marks_of v.beside status.wanted) missing (open_after how v.open_copy)

  good1 : Good tied.votes v1
  good1 = each_keeps tied.votes (Want (marks_of v.beside status.wanted) missing (open_after how v.open_copy)) v v1 (wants, refl) tied.good

  describes1 : Describes v1 v1.facts group (update_of core.status) (contents_of was)
  describes1 = quiet_lasts tied.votes (Want (marks_of v.beside status.wanted) missing (open_after how v.open_copy)) v v1 group (update_of core.status) (contents_of was) (wants, refl) tied.good tt tied.describes refl refl refl

  matches1 : Matches v1 v1.facts group (update_of core.status) old.device tied.media
  matches1 = record {
    told = tied.setting.told;
    describes = describes1;
    out = losing.wanted_out v (marks_of v.beside status.wanted) missing (open_after how v.open_copy) group (update_of core.status) old.device tied.media (tied_matches past old tied).out;
  }

  -- ---- the write has ended

  abbrev own1 : IsNoteFlight v1 f
  own1 = record { write = its_own.write; first = its_own.first; count = its_own.count; note = its_own.note; flies = its_own.flies; sector = its_own.sector; carries = its_own.carries; names = its_own.names }

  gone_now : IsTrue (v1.missing f.disk)
  gone_now = by (is_there core2 f.disk) refl
    where
      by : (b : Bool) → is_there core2 f.disk ≡ b → IsTrue (not b)
      by false there = refl
      by true there = clash_gives (f.disk == disk) (let e : f.disk ≡ disk = its_out.disk_is in grind (arith, nat_tests)) (was_there f.disk there).other

  landed : HasLanded v1 group (update_of core.status) f.disk own1.note false (contents_of is)
  landed = has_landed tied.votes v1 group (update_of core.status) old.device new.device.flights tied.media its_end.media f false good1 matches1 its_end.removes own1 its_end.lands (λ there. clash_gives (v1.missing f.disk) gone_now there) (inr gone_now)

  abbrev v2 : ModelState
  v2 = after_note v1 landed.names landed.home (flying_after v1 f.disk)

  good2 : Good tied.votes v2
  good2 = each_keeps tied.votes (EndNote f.disk landed.names landed.home (flying_after v1 f.disk)) v1 v2 (landed.may, refl) good1

  -- ---- the update may have ended

  rest : seen status ≡ record (seen lost) { wanted = status.wanted }
  rest = review.marks.rest

  abbrev over : Bool
  over = losing.over core.status lost status disk group going.fitting.group going.status loses rest

  abbrev v3 : ModelState
  v3 = record v2 { in_flight = option_map (as_marks v.beside) (update_of status) }

  update_is : update_of status ≡ (if over then None else update_of core.status)
  update_is = losing.update_is core.status lost status disk group going.fitting.group going.status loses rest

  abbrev IsAfter : Option (Stamped Status) → Type 0
  IsAfter u = Good tied.votes (record v2 { in_flight = option_map (as_marks v.beside) u }) × Describes (record v2 { in_flight = option_map (as_marks v.beside) u }) v.facts group u (contents_of is)

  after : IsAfter (update_of status)
  after = subst IsAfter (sym update_is) (by over refl)
    where
      goes : IsAfter (update_of core.status)
      goes = subst (λ (m : Option (Stamped Marks)). Good tied.votes (record v2 { in_flight = m }) × Describes (record v2 { in_flight = m }) v.facts group (update_of core.status) (contents_of is)) tied.sees.status.in_flight (good2, landed.describes)

      ends_now : over ≡ true → IsAfter None
      ends_now ends =
          let flew = losing.flew core.status lost status disk group going.fitting.group going.status loses rest ends in
          let u : Stamped Status = record { stamp = core.status.stamp; value = core.status.committed } in
          let flies : update_of core.status ≡ Some u = ap (option_map (λ (t : Status). let r : Stamped Status = record { stamp = core.status.stamp; value = t } in r)) flew.0 in
          updates_last.ends tied.votes v2 group (contents_of is) u good2 (subst (λ (x : Option (Stamped Status)). Describes v2 v.facts group x (contents_of is)) flies landed.describes)
          (tied.sees.status.held u flies flew.1)
          (λ d. tied.sees.status.started d ∙ losing.none_started core.status lost status disk group going.fitting.group going.status loses rest ends d)

      by : (b : Bool) → over ≡ b → IsAfter (if b then None else update_of core.status)
      by true ends = ends_now ends
      by false goes_on = goes

  -- ---- what the state sees then

  -- the review leaves which disks are missing
  there_same : (d : ℕ) → is_there core3 d ≡ is_there core2 d
  there_same d = ap (λ b. is_member group d && not b) (review.marks.missing d)

  was_out : (d : ℕ) → is_there core3 d ≡ true → WasThere d
  was_out d there = was_there d (sym (there_same d) ∙ there)

  home_now : (d lv g : ℕ) (n : DiskNotes) → IsTrue (is_there core3 d) → notes_on core3.cache d ≡ Some n → landed.home d lv g ≡ names_group n.written.items lv g
  home_now d lv g n there its =
      let w = was_out d there in
      let ne : d ≡ f.disk → ⊥ = λ e. clash_gives (d == disk) (let e2 : f.disk ≡ disk = its_out.disk_is in grind (arith, nat_tests)) w.other in
      ap (λ (x : Groups). x lv g) (landed.others d ne) ∙ tied.sees.notes.home d lv g n (was_in d (sym (there_same d) ∙ there)) (sym (beside core.cache disk false d w.other) ∙ its)

  flying_now : (d : ℕ) → SeesNote (flying_after v1 f.disk d) (flight_on core3.cache d)
  flying_now d = elim (cases_eq d disk) [
    | inl e ↦ subst (λ (x : Option Groups). SeesNote x (flight_on core3.cache d)) (sym (ap (λ b. if b then None else v.flying_note d) (here_too past old new at disk false row buf its_owner returns tied d e)))
        (subst (SeesNote None) (sym (ap (flight_on core3.cache) e ∙ none_here core.cache disk false)) tt)
    | inr ne ↦
        let test : (d == f.disk) ≡ false = let nowhere : d ≡ f.disk → ⊥ = not_here past old new at disk false row buf its_owner returns tied d ne in grind (arith, nat_tests) in
        subst (λ (x : Option Groups). SeesNote x (flight_on core3.cache d)) (sym (ap (λ b. if b then None else v.flying_note d) test))
        (subst (SeesNote (v.flying_note d)) (sym (flight_beside core.cache disk false d (ne_eqb d disk ne))) (tied.sees.notes.flying d))
  ]

  none_flies : {X : Type 0} (u : Stamped Status) → over ≡ true → update_of status ≡ Some u → X
  none_flies u ends flies = none_is_some u (sym (ap (λ b. if b then None else update_of core.status) ends) ∙ sym update_is ∙ flies)

  flies_on : over ≡ false → update_of status ≡ update_of core.status
  flies_on goes_on = update_is ∙ ap (λ b. if b then None else update_of core.status) goes_on

  written_now : (d : ℕ) → has status.writes.written d ≡ true → v.media.status d ≡ option_map (as_marks v.beside) (update_of status)
  written_now d had = by over refl (sym (losing.written_is core.status lost status disk group going.fitting.group going.status loses rest d) ∙ had)
    where
      by : (b : Bool) → over ≡ b → (if b then false else has core.status.writes.written d) ≡ true → v.media.status d ≡ option_map (as_marks v.beside) (update_of status)
      by true ends h = absurd (cc h)
      by false goes_on h = tied.sees.status.written d h ∙ tied.sees.status.in_flight ∙ ap (option_map (as_marks v.beside)) (sym (flies_on goes_on))

  held_now : (u : Stamped Status) → update_of status ≡ Some u → is_held (seen status) ≡ true → v.committed ≡ as_marks v.beside u
  held_now u flies enough = by over refl
    where
      by : (b : Bool) → over ≡ b → v.committed ≡ as_marks v.beside u
      by true ends = none_flies u ends flies
      by false goes_on = tied.sees.status.held u (sym (flies_on goes_on) ∙ flies) (sym (losing.held_same core.status lost status disk group going.fitting.group going.status loses rest goes_on) ∙ enough)

  sees : Sees past core3 (record v3 { open_copy = v.open_copy })
  sees = record {
    queue = tied.sees.queue;
    facts = tied.sees.facts;
    status = record {
      committed = tied.sees.status.committed ∙ ap (marks_of v.beside) (sym (losing.committed_same core.status lost status disk group going.fitting.group going.status loses rest));
      in_flight = refl;
      wanted = refl;
      started = λ d. tied.sees.status.started d ∙ sym (losing.started_same core.status lost status disk group going.fitting.group going.status loses rest d);
      written = written_now;
      held = held_now;
      missing = λ d. ap not (sym (there_same d));
    };
    notes = record {
      cache = tied.sees.notes.cache;
      home = home_now;
      flying = flying_now;
    };
    open_copy = tied.sees.open_copy;
    step_write = tied.sees.step_write;
    beside = tied.sees.beside;
  }

  -- ---- what is out, and the next update

  abbrev write_by : Bool → Option RecordWrite
  write_by b = if b then None else tied.write

  since_now : OnlyUpdateSince new.device (write_by over) (update_of status)
  since_now = subst (OnlyUpdateSince new.device (write_by over)) (sym update_is) (by over)
    where
      by : (b : Bool) → OnlyUpdateSince new.device (write_by b) (if b then None else update_of core.status)
      by true = tt
      by false = since_ended past old new at disk false row buf its_owner returns tied tied.write (update_of core.status) tied.since

  stamp_same : status.stamp ≡ core.status.stamp
  stamp_same = losing.stamp_same core.status lost status disk group going.fitting.group going.status loses rest

  update_written : over ≡ false → (u : Option Status) (w : Option RecordWrite) → IsWriteOf core.status core.homes u w → IsWriteOf status core.homes u w
  update_written goes_on None None its = tt
  update_written goes_on None (Some w) its = its
  update_written goes_on (Some u) None its = its
  update_written goes_on (Some u) (Some w) its = record {
    is_status = its.is_status;
    stamp = its.stamp ∙ sym stamp_same;
    content = its.content;
    targets = λ d owed. its.targets d (losing.owed_still core.status lost status disk group going.fitting.group going.status loses rest d owed);
    slots = λ d owed. its.slots d (losing.owed_still core.status lost status disk group going.fitting.group going.status loses rest d owed);
  }

  write_now : IsWriteOf status core.homes status.in_flight (write_by over)
  write_now = subst (λ (u : Option Status). IsWriteOf status core.homes u (write_by over)) (sym (losing.in_flight_is core.status lost status disk group going.fitting.group going.status loses rest)) (by over refl)
    where
      by : (b : Bool) → over ≡ b → IsWriteOf status core.homes (if b then None else core.status.in_flight) (write_by b)
      by true ends = tt
      by false goes_on = update_written goes_on core.status.in_flight tied.write tied.orderly.update

  next_before : MayUpdate group status core.homes was
  next_before = record {
    some_epoch = subst (λ (st : Stamp). st.epoch ≢ 0) (sym stamp_same) tied.recorded.next.some_epoch;
    epoch = subst (λ (st : Stamp). st.epoch < 2 ^ 64) (sym stamp_same) tied.recorded.next.epoch;
    whole = tied.recorded.next.whole;
    before = subst (λ (st : Stamp). StampsBefore (next_stamp st) was) (sym stamp_same) tied.recorded.next.before;
    spare = λ d there owed. let w = was_out d there in tied.recorded.next.spare d (was_in d (sym (there_same d) ∙ there)) (losing.owed_was core.status lost status disk group going.fitting.group going.status loses rest d w.member w.other owed);
  }

  next_now : MayUpdate group status core.homes is
  next_now = update_may tied.votes v1 group (update_of core.status) old.device new.device.flights tied.media its_end.media f false good1 matches1 its_end.removes own1 its_end.lands status core.homes
      (own_sector past old new at disk false row buf its_owner returns tied) next_before

  notes_fit : AreNotes core3
  notes_fit d items flies = elim (cases_eq d disk) [
    | inl e ↦ none_is_some items (sym (ap (flight_on core3.cache) e ∙ none_here core.cache disk false) ∙ flies)
    | inr ne ↦ subst (λ (st : Stamp). IsNote (record { stamp = st.epoch; entries = items.items })) (sym stamp_same) (tied.notes d items (sym (flight_beside core.cache disk false d (ne_eqb d disk ne)) ∙ flies))
  ]

  carries : (g : Flight) (who : Owner) → CarriesStep core v g who → CarriesStep core3 v3 g who
  carries g (owner.Data id n) carried = tt
  carries g (owner.Status d) carried = tt
  carries g (owner.Note d) carried = tt
  carries g owner.Copy carried = carried

  members_now : (d : ℕ) → members_showing (contents_of is) group d ≡ members_showing (contents_of was) group d
  members_now d = same_members tied.votes v1 group (update_of core.status) old.device new.device.flights tied.media its_end.media f false good1 matches1 its_end.removes own1 its_end.lands d

  abbrev committed_update : Stamped Status
  committed_update = record { stamp = core.status.stamp; value = core.status.committed }

  -- the update that has ended is what they show
  ended_shows : over ≡ true → ShowsStatus group status (contents_of is)
  ended_shows ends =
      let update_now : update_of core.status ≡ Some committed_update = ap (λ (o : Option Status). option_map (λ (t : Status). let r : Stamped Status = record { stamp = core.status.stamp; value = t } in r) o) (losing.flew core.status lost status disk group going.fitting.group going.status loses rest ends).0 in
      let describes_it : Describes v2 v.facts group (Some committed_update) (contents_of is) = subst (λ (o : Option (Stamped Status)). Describes v2 v.facts group o (contents_of is)) update_now landed.describes in
      record {
        stands = committed_update;
        committed = sym (losing.committed_same core.status lost status disk group going.fitting.group going.status loses rest);
        own = describes_it.shown.statuses.own committed_update refl;
        stated = λ d there.
            let w = was_there d (sym (there_same d) ∙ there) in
            shows_update v2 v.facts group committed_update (contents_of is) describes_it d
            (tied.sees.status.written d (losing.all_written core.status lost status disk group going.fitting.group going.status loses rest ends d w.member w.there w.other) ∙ tied.sees.status.in_flight ∙ ap (option_map (as_marks v.beside)) update_now);
        last = shows_last tied.votes v2 v.facts group committed_update (contents_of is) describes_it good2.found (tied.sees.status.held committed_update update_now (losing.flew core.status lost status disk group going.fitting.group going.status loses rest ends).1) (tied.sees.status.in_flight ∙ ap (option_map (as_marks v.beside)) update_now);
      }

  no_more : NoMoreThere group core.status status
  no_more d there = was_in d (sym (there_same d) ∙ there)

  -- no other update was in flight
  still_shows : over ≡ false → status.in_flight ≡ None → ShowsStatus group status (contents_of is)
  still_shows goes_on none =
      let still : core.status.in_flight ≡ None = sym (ap (λ b. if b then None else core.status.in_flight) goes_on) ∙ sym (losing.in_flight_is core.status lost status disk group going.fitting.group going.status loses rest) ∙ none in
      status_lasts group core.status status (contents_of was) (contents_of is) (tied.recorded.records.settled still) no_more (losing.committed_same core.status lost status disk group going.fitting.group going.status loses rest)
      (same_statuses tied.votes v1 group (update_of core.status) old.device new.device.flights tied.media its_end.media f false good1 matches1 its_end.removes own1 its_end.lands (no_update_of core.status still))

  records_now : ShowsRecords group status (contents_of is)
  records_now = records_last group core.status status (contents_of was) (contents_of is) tied.recorded.records no_more
      (same_descriptors tied.votes v1 group (update_of core.status) old.device new.device.flights tied.media its_end.media f false good1 matches1 its_end.removes own1 its_end.lands)
      (λ none. by over refl none)
    where
      by : (b : Bool) → over ≡ b → status.in_flight ≡ None → ShowsStatus group status (contents_of is)
      by true ends none = ended_shows ends
      by false goes_on none = still_shows goes_on none

  committed_now : CommittedIsOne v.committed.stamp group status (contents_of is)
  committed_now = one_remains tied.recorded.committed (losing.committed_same core.status lost status disk group going.fitting.group going.status loses rest) (λ u flies. flew_still u over refl flies)
      (may_stand tied.votes v1 group (update_of core.status) old.device new.device.flights tied.media its_end.media f false good1 matches1 its_end.removes own1 its_end.lands)
    where
      flew_still : (u : Stamped Status) (b : Bool) → over ≡ b → update_of status ≡ Some u → update_of core.status ≡ Some u
      flew_still u true ends flies = none_flies u ends flies
      flew_still u false goes_on flies = sym (flies_on goes_on) ∙ flies

  -- ---- all of it

  near : IsNear past new.device core3 how
  near = record {
    votes = tied.votes;
    media = its_end.media;
    setting = record {
      are_votes = tied.setting.are_votes;
      told = its_end.told;
      own = tied.setting.own;
    };
    view = v3;
    open_copy = v.open_copy;
    sees = sees;
    ended = refl;
    good = after.0;
    describes = subst (λ (sizes : List ℕ). Describes v3 v3.facts group (update_of status) (contents_of (image_of sizes its_end.media))) (sym its_end.sizes) after.1;
    write = write_by over;
    since = since_now;
    recorded = record {
      next = subst (λ (sizes : List ℕ). MayUpdate group status core.homes (image_of sizes its_end.media)) (sym its_end.sizes) next_now;
      members = λ d member first. subst (λ (sizes : List ℕ). IsTrue (members_showing (contents_of (image_of sizes its_end.media)) group d)) (sym its_end.sizes) (members_now d ∙ tied.recorded.members d member first);
      records = subst (λ (sizes : List ℕ). ShowsRecords group status (contents_of (image_of sizes its_end.media))) (sym its_end.sizes) records_now;
      committed = subst (λ (sizes : List ℕ). CommittedIsOne v.committed.stamp group status (contents_of (image_of sizes its_end.media))) (sym its_end.sizes) committed_now;
    };
    notes = notes_fit;
    copy_aimed = tied.copy_aimed;
    carry = subst (λ (fs : List Flight). CarryTheirs core3 v3 fs (remove core.flying at)) (sym its_end.removes.is)
        ((its_row past old new at disk false row buf its_owner returns tied core3 v3).carry carries (subst (λ (fs : List Flight). CarryTheirs core v fs core.flying) its_end.removes.was tied.carry));
  }

  new_is : new.core ≡ with_end core3 how
  new_is = review.is ∙ with_end_status core2 how status

  leaves : (new.core.power ≡ core.power) × (new.core.homes ≡ core.homes)
  leaves = let l = end_leaves core3 how in (ap (λ (c : Core). c.power) new_is ∙ l.0, ap (λ (c : Core). c.homes) new_is ∙ l.1)

  orderly_now : IsOrderly new (write_by over)
  orderly_now = record { sound = sound; on = leaves.0 ∙ tied.orderly.on; update = subst (λ (h : Homes). IsWriteOf status h status.in_flight (write_by over)) (sym leaves.1) write_now }

  runs : (e : CopyEnd) → how ≡ Some e → IsRunning core3
  runs e ends = let r = ends_running core2 e ends in record { copy = r.copy; is_open = r.is_open; runs = r.runs }

  whole : new ≡ state new.device (with_end core3 how)
  whole = λ t. record { device = new.device; core = new_is t }

  pub loss_tied : IsTied past new
  unfolding near
  loss_tied = subst (IsTied past) (sym whole) (near_ties past new.device core3 how near runs (subst (λ (x : State). IsOrderly x (write_by over)) whole orderly_now))
