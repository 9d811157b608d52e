-- The end of a write's transfer, with what it entails, tied.
use Rattle.std.proofs.Common.{◌≡◌, ◌⊎◌, inl, inr, ⊎_elim, ℕ, zero, suc, ◌+◌, ◌≤◌, Bool, true, false, ◌&&◌, ◌||◌, ◌==◌, not, List, [], ◌∷◌, Option, Some, None, refl, sym, ap, subst, ◌∙◌, arith}
use Rattle.std.specs.Prelude.{IfSome, IsFalse, IsTrue, filter, if◌then◌else◌, nat_le, slice_get, slice_set}
use Rattle.std.specs.List.{list_any, remove}
use Rattle.std.specs.Option.{option_map_or}
use Rattle.std.proofs.lemmas.Bool.{cases_eq, and_parts}
use Rattle.std.proofs.lemmas.Bool.Decides.{nat_tests}
use Rattle.std.proofs.lemmas.Option.{same_Some}
use Rattle.lvm_num.specs.declared.place.Pp.{Pp}
use Rattle.lvm_num.specs.declared.record.Stamp.{Stamp}
use Rattle.lvm_num.specs.declared.status.Status.{Status}
use Rattle.lvm_num.specs.Buffer.{Sector}
use Rattle.lvm_num.proofs.Lists.{all_at}
use Rattle.lvm_num.specs.Note.{IsNote}
use Rattle.lvm_num.specs.Record.{Stamped}
use Rattle.lvm_num.specs.Status.{calls_stale}
use Rattle.lvm_vol.specs.Facts.{Fact}
use Rattle.lvm_disk.specs.Device.{AreSectors, Device, Flight, HasSectors, Media, image_of}
use Rattle.lvm_kept.specs.Contents.{Contents, contents_of}
use Rattle.lvm_kept.specs.Group.{IsOneOf}
use Rattle.lvm_kept.specs.Places.{SameRecords}
use Rattle.lvm_kept.specs.Torn.{RecordWrite}
use Rattle.lvm_num.specs.Descriptor.{is_pp}
use Rattle.lvm_num.proofs.Booleans.{and_false, clash_gives, false_by}
use Rattle.lvm_status.specs.Update.{Stored}
use Rattle.lvm_sched.specs.Writes.{is_waiting as target_waits}
use Rattle.lvm_sched.specs.declared.writes.TargetState.{TargetState}
use Rattle.lvm_path.specs.declared.request.Phase.TheVariants as phase
use Rattle.lvm_path.specs.declared.target.Target.{Target}
use Rattle.lvm_path.specs.Asks.{at_of, count_of, is_write, lv_of}
use Rattle.lvm_path.specs.Next.{with_end}
use Rattle.lvm_path.specs.Targets.{are_over, end_state, is_begun, is_done, is_failed, with_state}
use Rattle.lvm_session.specs.declared.bringing.CopyEnd.{CopyEnd}
use Rattle.lvm_session.specs.declared.bringing.CopyEnd.TheVariants as ending
use Rattle.lvm_session.specs.declared.bringing.OpenCopy.{OpenCopy}
use Rattle.lvm_session.specs.declared.bringing.Step.{Step}
use Rattle.lvm_session.specs.declared.bringing.Step.TheVariants as step
use Rattle.lvm_session.specs.declared.flown.Owner.{Owner}
use Rattle.lvm_session.specs.declared.flown.Owner.TheVariants as owner
use Rattle.lvm_session.specs.declared.open.Open.{Open}
use Rattle.lvm_session.specs.declared.open.Power.TheVariants as power
use Rattle.lvm_session.specs.State.{Core, State, state}
use Rattle.lvm_session.specs.Bringing.{after_copy_end, ends_if, is_held_stale, is_done_end, is_out, is_whole, marked_by_end, with_back, with_end as with_copy_end}
use Rattle.lvm_session.specs.Judging.{all_but_sure, copies_for, is_kept, is_running, is_sure, is_sure_at, is_waiting, place_of, pps_of}
use Rattle.lvm_session.specs.Ends.{DataLearns, Ends, Learns, after_data, keeps_buffer, learned}
use Rattle.lvm_session.specs.Events.{IsDataTransfer}
use Rattle.lvm_session.specs.Marks.{Entails, WantsStale, due_of, due_targets, end_by_write, hits_copy, is_among}
use Rattle.lvm_session.specs.Requests.{IsAimed, IsTarget}
use Rattle.lvm_session.specs.Sound.{IsSound}
use Rattle.lvm_invariant.specs.State.{Going, Marks, ModelCopy, Queued, Stage, ModelState, covers}
use Rattle.lvm_invariant.specs.Good.{Good}
use Rattle.lvm_invariant.specs.Sound.{StaysFresh}
use Rattle.lvm_invariant.specs.Events.{Event, Transfer, Want}
use Rattle.lvm_invariant.specs.Transfer.{restaged}
use Rattle.lvm_invariant.specs.Updates.{put, staged}
use Rattle.lvm_invariant.specs.Want.{Replaced, Wants, after_wants}
use Rattle.lvm_invariant.proofs.EventsLemmas.Each.{each_keeps}
use Rattle.lvm_invariant.proofs.StateLemmas.Rules.{each_has}
use Rattle.lvm_crash.specs.Left.{KeepsGroup}
use Rattle.lvm_crash.specs.Session.{Describes, marks_of, is_beside}
use Rattle.lvm_even.specs.Members.{members_showing}
use Rattle.lvm_crash.proofs.OwnedLemmas.{covers_its}
use Rattle.lvm_crash.proofs.RecordsLemmas.Quiet.{quiet_lasts, update_goes_on}
use Rattle.lvm_crash.proofs.WritingLemmas.{group_kept, pp_same, records_same, same_pp, write_ends}
use Rattle.lvm_crash.specs.Owned.{OnlyUpdateSince}
use Rattle.lvm_crash.specs.Writing.{WriteEnded, after_write, stage_of}
use Rattle.lvm_tie.proofs.SeenLemmas.Changing.{same_long, sees_changed, stage_after, step_apart, target_moves, target_was}
use Rattle.lvm_tie.proofs.StateLemmas.{among_one, aimed_of, copy_is, one_apart, whole_stale}
use Rattle.lvm_tie.proofs.TiedLemmas.Orderly.{AreOut, Differ, HasTargets, HaveNumbers, HaveTickets, IsDataOut, IsOut, begun_by, numbers_of, open_one, out_of, targets_of, tickets_of, valid_of, waiting_one}
use Rattle.lvm_tie.proofs.TiedLemmas.Tied.{DataParts, data_parts}
use Rattle.lvm_tie.proofs.AmongLemmas.{any_one, its_pp, not_true, one_there, or_either, or_true, target_of}
use Rattle.lvm_tie.proofs.OutLemmas.Wanted.{next_same, records_wanted, sees_wanted, stamp_same, update_same, write_same, one_wanted}
use Rattle.lvm_tie.proofs.TiedLemmas.Recorded.{records_kept, one_kept}
use Rattle.lvm_tie.specs.Out.{CarriesStep, CarryTheirs, IsWriteOf, MayUpdate}
use Rattle.lvm_tie.specs.Seen.{Sees, SeesRequest, phase_seen, stage_at, stage_seen, update_of}
use Rattle.lvm_tie.specs.Tied.{IsOrderly, IsTied, ShowsRecords, CommittedIsOne}
use Rattle.lvm_tie.proofs.OutLemmas.Ended.{HasEnded, IsRow, has_ended, is_row}
use Rattle.lvm_tie.proofs.EndsLemmas.{read_end_ties}
use Rattle.lvm_tie.specs.EndsWrites.{DataEndTies, WriteEndTies}
use Rattle.lvm_tie.proofs.JudgingLemmas.Due.{Stays, are_apart, done_stays, not_due, stage_one, sure_stays}
use Rattle.lvm_tie.proofs.OutLemmas.Next.{next_by_data}
use Rattle.lvm_tie.specs.Near.{IsNear, IsRunning, open_after}
use Rattle.lvm_tie.proofs.NearLemmas.{near_ties, with_end_status}
use Rattle.lvm_tie.proofs.WantedLemmas.Reviewing.{opened}
use Rattle.lvm_session.proofs.MovesLemmas.{place_open, stale_of}
use Rattle.lvm_tie.proofs.SeenLemmas.Beside.{beside_stale, destination_beside, fresh_so, stale_apart, stale_so}

-- the target that has changed
state_there : (ts : List Target) (number : ℕ) (t : Target) (s : TargetState) → slice_get ts number ≡ Some t → slice_get (with_state ts number s) number ≡ Some (record t { state = s })
state_there [] number t s there = absurd cc
state_there (u ∷ us) zero t s there = ap (λ (x : Target). Some (record x { state = s })) (same_Some u t there)
state_there (u ∷ us) (suc number) t s there = state_there us number t s there

among_if : (b : Bool) (ps : List Pp) (p : Pp) → is_among (if b then ps else []) p ≡ true → is_among ps p ≡ true
among_if true ps p h = h
among_if false ps p h = absurd cc

not_if : (b : Bool) (ps : List Pp) (p : Pp) → is_among ps p ≡ false → is_among (if b then ps else []) p ≡ false
not_if true ps p h = h
not_if false ps p h = refl

-- a target at a sure partition is sure, where it is a copy
sure_at : (core : Core) (x : Target) (p : Pp) → x.moves ≡ false → x.pp ≡ p → is_sure core p ≡ true → is_sure_at core x ≡ true
sure_at core x p stays same sure = ap (λ b. not b && is_sure core x.pp) stays ∙ ap (is_sure core) same ∙ sure

-- what is put in the queue is there
put_there : (v : ModelState) (i : ℕ) (q : Queued) → put v.queue i q i ≡ Some q
put_there v i q = let test : (i == i) ≡ true = grind (arith, nat_tests) in ap (λ b. if b then Some q else v.queue i) test

going_either : (b : Bool) → phase_seen (if b then phase.WantStatus else phase.Data) true ≡ Going
going_either true = refl
going_either false = refl

-- what is entailed is wanted, and then the copy ends
entailed_is : (old : Core) (o : Open) (ok : Bool) (p : Pp) (new : Core) → Entails old o ok p new → new ≡ with_copy_end (record old { status = new.status }) (end_by_write old o ok p)
entailed_is old o ok p new entails = entails.is ∙ with_end_status old (end_by_write old o ok p) new.status

-- the end of a copy leaves power, status and slots
ended_orderly : (device : Device) (core : Core) (e : Option CopyEnd) (write : Option RecordWrite) → IsSound (state device (with_copy_end core e)) → core.power ≡ power.On → IsWriteOf core.status core.homes core.status.in_flight write
    → IsOrderly (state device (with_copy_end core e)) write
ended_orderly device core None write sound on update = record { sound = sound; on = on; update = update }
ended_orderly device core (Some how) write sound on update = by core.copy sound
  where
    by : (m : Option OpenCopy) → IsSound (state device (option_map_or (λ (c : OpenCopy). after_copy_end core c how) m core)) → IsOrderly (state device (option_map_or (λ (c : OpenCopy). after_copy_end core c how) m core)) write
    by None sound_then = record { sound = sound_then; on = on; update = update }
    by (Some c) sound_then = record { sound = sound_then; on = on; update = update }

module _ (past : List Fact) (old new : State) (index : ℕ) (ends : Ends old new index) (id number : ℕ) (its_owner : ends.row.owner ≡ owner.Data id number) (learns : DataLearns old.core index id number ends.ok ends.buf new.core) (tied : IsTied past old)
    (writes : is_write learns.its.request.request.ask ≡ true) (sectors : HasSectors new.device) where
  abbrev o : Open
  o = learns.its.request

  abbrev t : Target
  t = learns.its.aim

  abbrev ts : List Target
  ts = o.request.targets.items

  abbrev v : ModelState
  v = tied.view

  abbrev i : ℕ
  i = place_of o.request.id

  abbrev o2 : Open
  o2 = record o { request = with_end o.request number ends.ok }

  abbrev core2 : Core
  core2 = record old.core { requests = slice_set old.core.requests learns.place o2; flying = remove old.core.flying index; pool = slice_set old.core.pool ends.buf.number false }

  numbers : HaveNumbers old.core
  numbers = numbers_of old tied.write tied.orderly

  tickets : HaveTickets old.core.flying
  tickets = tickets_of old tied.write tied.orderly

  no_buffer : keeps_buffer o ends.ok ≡ false
  no_buffer = ap (λ w. ends.ok && not w) writes ∙ and_false ends.ok

  after_is : after_data old.core index learns.place o number ends.ok ends.buf ≡ core2
  after_is = ap (λ b. let c : Core = record old.core {
    requests = slice_set old.core.requests learns.place (record o { request = with_end o.request number ends.ok; got = if b then Some ends.buf else o.got });
    flying = remove old.core.flying index;
    pool = with_back old.core.pool (if b then None else Some ends.buf);
  } in c) no_buffer

  learned_is : learned o number ends.ok ends.buf ≡ o2
  learned_is = ap (λ b. let x : Open = record o { request = with_end o.request number ends.ok; got = if b then Some ends.buf else o.got } in x) no_buffer

  ended : HasEnded old.device new.device ends.row.ticket ends.ok ends.buf tied.media
  ended = has_ended old.device new.device ends.row.ticket ends.ok ends.buf tied.media ends.returns.ends tied.setting.told

  abbrev f : Flight
  f = ended.flight

  abbrev q : Queued
  q = (tied.sees.queue.requests learns.place o learns.its.there).0

  at : v.queue i ≡ Some q
  at = (tied.sees.queue.requests learns.place o learns.its.there).1

  sees : SeesRequest o q
  sees = (tied.sees.queue.requests learns.place o learns.its.there).2

  its_row : (next : Core) (u : ModelState) → IsRow old.core next tied.write v u ended.removes.before ended.removes.after f old.core.flying index ends.row
  its_row next u = is_row old.core next tied.write v u ended.removes.before ended.removes.after f old.core.flying index ends.row
      (subst (λ (fs : List Flight). AreOut old.core tied.write fs old.core.flying) ended.removes.was (out_of old tied.write tied.orderly tied.notes)) tickets ends.returns.there ended.its

  found : IsDataOut old.core f o.request.id number
  found = subst (IsOut old.core tied.write f) (its_owner ∙ ap (λ n. owner.Data n number) (sym learns.own)) (its_row core2 v).out

  place_is : found.place ≡ learns.place
  place_is = numbers found.place learns.place found.request o found.there learns.its.there found.own

  request_is : found.request ≡ o
  request_is = same_Some found.request o (sym found.there ∙ ap (slice_get old.core.requests) place_is ∙ learns.its.there)

  aim_same : found.aim ≡ t
  aim_same = same_Some found.aim t (sym found.aim_is ∙ ap (λ (x : Open). slice_get x.request.targets.items number) request_is ∙ learns.its.aim_is)

  abbrev out : IsDataOut old.core f o.request.id number
  out = record {
    place = learns.place;
    request = o;
    there = learns.its.there;
    own = refl;
    waiting = sym (ap is_waiting request_is) ∙ found.waiting;
    moving = sym (ap (λ (x : Open). x.request.phase) request_is) ∙ found.moving;
    aim = t;
    aim_is = learns.its.aim_is;
    flies = sym (ap (λ (x : Target). x.state) aim_same) ∙ found.flies;
    moves = subst (λ (x : Target). IsDataTransfer old.core o.request x f) aim_same (subst (λ (x : Open). IsDataTransfer old.core x.request found.aim f) request_is found.moves);
  }

  its : HasTargets old.core o
  its = targets_of old tied.write tied.orderly learns.place o learns.its.there out.waiting

  parts : DataParts past old tied o t f q
  parts = data_parts past old tied f o.request.id number out q writes at sees

  abbrev before : Contents
  before = contents_of (image_of old.device.sizes tied.media)

  abbrev now : Contents
  now = contents_of (image_of old.device.sizes ended.media)

  abbrev block : ℕ → ℕ → Pp → Sector
  block = after_write v old.core.descriptor.mib q t.pp now

  wrote : WriteEnded v i q t.pp old.core.descriptor (update_of old.core.status) ends.ok now
  wrote = write_ends tied.votes v i q t.pp old.core.descriptor (update_of old.core.status) old.device.sizes tied.media ended.media f ends.ok (valid_of old tied.write tied.orderly) tied.good tied.describes parts.started parts.flies parts.aimed parts.transfer ended.lands

  group_same : KeepsGroup before now
  group_same = group_kept tied.votes v i q t.pp q.value old.core.descriptor (update_of old.core.status) old.device.sizes tied.media ended.media f ends.ok (valid_of old tied.write tied.orderly) tied.good tied.describes parts.started.there parts.aimed parts.transfer ended.lands

  same_records : SameRecords (image_of old.device.sizes tied.media) (image_of old.device.sizes ended.media)
  same_records = records_same tied.votes v i q t.pp q.value old.core.descriptor (update_of old.core.status) old.device.sizes tied.media ended.media f ends.ok (valid_of old tied.write tied.orderly) tied.good tied.describes parts.started.there parts.aimed parts.transfer ended.lands

  whole : AreSectors new.device.sizes ended.media
  whole = subst (λ (m : Option Media). IfSome m (λ (media : Media). AreSectors new.device.sizes media)) ended.told sectors

  abbrev q2 : Queued
  q2 = record q { targets = staged q.targets t.pp (stage_of ends.ok) }

  abbrev w : ModelState
  w = restaged v i q t.pp (stage_of ends.ok) block

  abbrev ts2 : List Target
  ts2 = with_state ts number (end_state ends.ok)

  stage_ended : (ok : Bool) → stage_of ok ≡ stage_seen (end_state ok)
  stage_ended true = refl
  stage_ended false = refl

  over_not_waiting : (ok : Bool) → target_waits (end_state ok) ≡ false
  over_not_waiting true = refl
  over_not_waiting false = refl

  begun : is_begun ts2 ≡ true
  begun = begun_by ts2 number (record t { state = end_state ends.ok }) (state_there ts number t (end_state ends.ok) learns.its.aim_is) (over_not_waiting ends.ok)

  sees2 : SeesRequest o2 q2
  sees2 = record {
    lv = sees.lv;
    first = sees.first;
    count = sees.count;
    write = sees.write;
    step = sees.step;
    phase = parts.started.going ∙ sym (going_either (is_write o.request.ask && are_over ts2))
        ∙ (λ k. phase_seen (if is_write o.request.ask && are_over ts2 then phase.WantStatus else sym out.moving k) (sym begun k));
    several = sees.several ∙ ap (nat_le 2) (sym (same_long ts number (end_state ends.ok)));
    targets = λ e. ap (λ x. if is_pp e t.pp then Some (stage_of ends.ok) else x) (sees.targets e)
        ∙ ap (λ (s : Stage). if is_pp e t.pp then Some s else stage_at ts e) (stage_ended ends.ok)
        ∙ sym (stage_after ts number t (end_state ends.ok) its.differ learns.its.aim_is e);
    got = sees.got;
  }

  carries : (status : Stored) (u : ModelState) → u.queue ≡ w.queue → (g : Flight) (who : Owner) → CarriesStep old.core v g who → CarriesStep (record core2 { status = status }) u g who
  carries status u same g (owner.Data n m) c = tt
  carries status u same g (owner.Status disk) c = tt
  carries status u same g (owner.Note disk) c = tt
  carries status u same g owner.Copy carried = λ c p is writing here. carried c p is writing (sym (elsewhere c is writing) ∙ ap (λ (queue : ℕ → Option Queued). queue c.place) (sym same) ∙ here)
    where
      elsewhere : (c : OpenCopy) → old.core.copy ≡ Some c → c.step ≡ step.Writing → w.queue c.place ≡ v.queue c.place
      elsewhere c is writing = elim (cases_eq c.place i) [
        | inl e ↦ absurd (step_apart past old.core v learns.place o o2 q2 core2.pool core2.flying old.core.last old.core.queue old.core.cache.entries block tied.sees numbers learns.its.there refl sees2 (λ lv g2. refl) c is
            (ap (λ (st : Step). is_out st || (is_running c && not (is_whole old.core c))) writing) e)
        | inr ne ↦ let test : (c.place == i) ≡ false = grind (arith, nat_tests) in ap (λ b. if b then Some q2 else v.queue c.place) test
      ]

  since_ended : (x : Option RecordWrite) (u : Option (Stamped Status)) → OnlyUpdateSince old.device x u → OnlyUpdateSince new.device x u
  since_ended None None since = tt
  since_ended (Some x) (Some u) since = update_goes_on x u old.device new.device ended.step (ended.planned x) since
  since_ended (Some x) None since = absurd since
  since_ended None (Some u) since = absurd since

  -- the session so far, without what becomes wanted
  sees_w : Sees past core2 w
  sees_w = sees_changed past old.core v learns.place o o2 q2 core2.pool core2.flying old.core.last old.core.queue old.core.cache.entries block tied.sees numbers learns.its.there refl sees2 (λ lv g. refl)

  good_w : Good tied.votes w
  good_w = each_keeps tied.votes (Transfer i q t.pp (stage_of ends.ok) block) v w (wrote.may, refl) tied.good

  next_w : MayUpdate old.core.descriptor old.core.status old.core.homes (image_of old.device.sizes ended.media)
  next_w = next_by_data old.core.descriptor old.core.status old.core.homes (image_of old.device.sizes tied.media) (image_of old.device.sizes ended.media) (subst (λ (sizes : List ℕ). AreSectors sizes ended.media) ended.sizes whole) same_records tied.recorded.next

  -- ---- what becomes wanted stale

  differ2 : Differ ts2
  differ2 j k a b here there same =
      let x = target_was ts number (end_state ends.ok) j a here in
      let y = target_was ts number (end_state ends.ok) k b there in
      its.differ j k x.0 y.0 x.1 y.1 (x.2 ∙ same ∙ sym y.2)

  sure_of : (p : Pp) → StaysFresh w p → is_sure core2 p ≡ true
  sure_of p fresh =
      let committed : calls_stale old.core.status.committed p ≡ false = (fresh_so v.beside old.core.status.committed p (sym (ap (λ (m : Marks). m.stale p) tied.sees.status.committed) ∙ fresh.committed)).1 in
      let wanted : calls_stale old.core.status.wanted p ≡ false = (fresh_so v.beside old.core.status.wanted p (sym (ap (λ (m : Marks). m.stale p) tied.sees.status.wanted) ∙ fresh.wanted)).1 in
      λ k. not (committed k) && not (wanted k)

  apart_of : (p : Pp) → StaysFresh w p → is_beside v.beside p ≡ false
  apart_of p fresh = (fresh_so v.beside old.core.status.committed p (sym (ap (λ (m : Marks). m.stale p) tied.sees.status.committed) ∙ fresh.committed)).0

  covers_first : IsTrue (covers q2 q2.lv q2.first)
  covers_first =
      let some : 1 ≤ count_of o.request.ask = (open_one old tied.write tied.orderly learns.place o learns.its.there).laid.within.some in
      let count : q2.count ≡ count_of o.request.ask = sees.count in
      let here : q2.first + 0 ≡ q2.first = omega arith in
      subst (λ n. IsTrue (covers q2 q2.lv n)) here (covers_its q2 0 (omega arith))

  -- what each target was
  record WasTarget (x : Target) : Type 0 where
    was : Target
    its : IsTarget old.core o.request.ask was
    moves : was.moves ≡ x.moves
    pp : was.pp ≡ x.pp

  was_target : (x : Target) → IsOneOf ts2 x → WasTarget x
  was_target x one =
      let there = one_there ts2 x one in
      let was = target_moves ts number (end_state ends.ok) there.0 x there.1 in
      let at = target_was ts number (end_state ends.ok) there.0 x there.1 in
      let same : at.0 ≡ was.0 = same_Some at.0 was.0 (sym at.1 ∙ was.1) in
      record {
        was = was.0;
        its = all_at (IsTarget old.core o.request.ask) ts there.0 was.0 (waiting_one old tied.write tied.orderly learns.place o learns.its.there out.waiting).shape.targets was.1;
        moves = was.2;
        pp = ap (λ (y : Target). y.pp) (sym same) ∙ at.2;
      }

  -- one that isn't beside is a copy
  stays_copy : (x : Target) → IsOneOf ts2 x → is_beside v.beside x.pp ≡ false → x.moves ≡ false
  stays_copy x one off = by x.moves refl
    where
      by : (b : Bool) → x.moves ≡ b → b ≡ false
      by false is = refl
      by true is =
          let at_x = was_target x one in
          let aimed = subst (λ (b : Bool). IsAimed b old.core o.request.ask at_x.was) (at_x.moves ∙ is) at_x.its.copy in
          let at_c = place_open old.core o.request.ask at_x.was.pp aimed.0 in
          clash_gives (is_beside v.beside x.pp) (ap (is_beside v.beside) (sym at_x.pp ∙ at_c.is) ∙ destination_beside old.core at_c.copy v.beside tied.sees.beside at_c.is_open at_c.moves) off

  -- and a copy isn't beside
  apart_copy : (x : Target) → IsOneOf ts2 x → x.moves ≡ false → is_beside v.beside x.pp ≡ false
  apart_copy x one is =
      let at_x = was_target x one in
      let among = subst (λ (b : Bool). IsAimed b old.core o.request.ask at_x.was) (at_x.moves ∙ is) at_x.its.copy in
      ap (is_beside v.beside) (sym at_x.pp)
      ∙ one_apart past old tied o.request.ask (open_one old tied.write tied.orderly learns.place o learns.its.there).laid.within at_x.was.pp (among_one (copies_for old.core o.request.ask) at_x.was.pp among)

  -- one of its targets is sure, and stays so
  stays : Stays core2 ts2 (due_targets core2 o2.request)
  stays = by (is_kept core2 o2.request) refl
    where
      by : (b : Bool) → is_kept core2 o2.request ≡ b → Stays core2 ts2 (if b then filter (λ (x : Target). is_failed x.state) ts2 else all_but_sure core2 ts2)
      by true is =
          let u = any_one (λ (x : Target). is_done x.state && is_sure_at core2 x) ts2 is in
          let both = and_parts (is_done u.0.state) (is_sure_at core2 u.0) u.2 in
          done_stays core2 ts2 u.0 (are_apart ts2 differ2) u.1 both.0 both.1
      by false is =
          let kept = each_has w i q2 good_w.sound (record { there = (put_there v i q2); write = parts.started.write; going = parts.started.going }) covers_first in
          let u = stage_one ts2 kept.copy kept.stage (sym (sees2.targets kept.copy) ∙ kept.target) in
          sure_stays core2 ts2 u.0 (are_apart ts2 differ2) u.1 (sure_at core2 u.0 kept.copy (stays_copy u.0 u.1 (ap (is_beside v.beside) u.2 ∙ apart_of kept.copy kept.kept)) u.2 (sure_of kept.copy kept.kept))

  its_copy : (x : Target) → IsOneOf ts2 x → IsTrue (v.is_copy (lv_of o.request.ask) (at_of o.request.ask) x.pp)
  its_copy x one =
      let there = one_there ts2 x one in
      let was = target_was ts number (end_state ends.ok) there.0 x there.1 in
      subst (λ (c : Pp). IsTrue (v.is_copy (lv_of o.request.ask) (at_of o.request.ask) c)) was.2 (aimed_of past old tied learns.place there.0 o was.0 learns.its.there out.waiting was.1)

  keeper_sure : is_sure core2 stays.keeper.pp ≡ true
  keeper_sure = (and_parts (not stays.keeper.moves) (is_sure core2 stays.keeper.pp) stays.sure).1

  keeper_apart : is_beside v.beside stays.keeper.pp ≡ false
  keeper_apart = apart_copy stays.keeper stays.one (not_true stays.keeper.moves (and_parts (not stays.keeper.moves) (is_sure core2 stays.keeper.pp) stays.sure).0)

  keeper_fresh : calls_stale old.core.status.committed stays.keeper.pp ≡ false
  keeper_fresh = not_true (calls_stale old.core.status.committed stays.keeper.pp) (and_parts (not (calls_stale old.core.status.committed stays.keeper.pp)) (not (calls_stale old.core.status.wanted stays.keeper.pp)) keeper_sure).0

  keeper_wanted : calls_stale old.core.status.wanted stays.keeper.pp ≡ false
  keeper_wanted = not_true (calls_stale old.core.status.wanted stays.keeper.pp) (and_parts (not (calls_stale old.core.status.committed stays.keeper.pp)) (not (calls_stale old.core.status.wanted stays.keeper.pp)) keeper_sure).1

  keeper_seen : IsFalse (v.committed.value.stale stays.keeper.pp)
  keeper_seen = ap (λ (m : Marks). m.stale stays.keeper.pp) tied.sees.status.committed ∙ stale_apart v.beside old.core.status.committed stays.keeper.pp keeper_apart ∙ keeper_fresh

  -- what is due is one of its targets
  record IsTargets (p : Pp) : Type 0 where
    one : Target
    its_one : IsOneOf ts2 one
    there : one.pp ≡ p

  due_one : (p : Pp) → is_among (due_of core2 o2.request) p ≡ true → IsTargets p
  due_one p is =
      let among = among_if (is_write o2.request.ask && are_over ts2) (pps_of (due_targets core2 o2.request)) p is in
      let x = target_of (due_targets core2 o2.request) p (among_one (pps_of (due_targets core2 o2.request)) p among) in
      record { one = x.0; its_one = (stays.others x.0 x.1).0; there = x.2 }

  keeper_not_due : is_among (due_of core2 o2.request) stays.keeper.pp ≡ false
  keeper_not_due = not_if (is_write o2.request.ask && are_over ts2) (pps_of (due_targets core2 o2.request)) stays.keeper.pp (not_due core2 ts2 (due_targets core2 o2.request) stays)

  -- ---- the copy that is being brought up

  abbrev how : Option CopyEnd
  how = end_by_write core2 o2 ends.ok t.pp

  abbrev due : Pp → Bool
  due p = is_among (due_of core2 o2.request) p || marked_by_end core2 how p

  -- it runs, and one of the targets is on it, where it ends so
  record IsHit (h : CopyEnd) : Type 0 where
    copy : OpenCopy
    is_open : old.core.copy ≡ Some copy
    running : is_running copy ≡ true
    target : IsTargets copy.pp
    fails : h ≡ ending.SyncFailed

  hit : (h : CopyEnd) → how ≡ Some h → IsHit h
  hit h is = by (option_map_or (hits_copy core2 o2 ends.ok t.pp) old.core.copy false) refl is
    where
      which : (c : OpenCopy) → (not ends.ok && is_pp t.pp c.pp || (are_over ts2 && not (is_kept core2 o2.request) && not o.older && is_among (due_of core2 o2.request) c.pp)) ≡ true → IsTargets c.pp
      which c test = ⊎_elim
          (λ bad. record {
            one = record t { state = end_state ends.ok };
            its_one = (its_pp ts2 number (record t { state = end_state ends.ok }) (state_there ts number t (end_state ends.ok) learns.its.aim_is)).1;
            there = pp_same t.pp c.pp (and_parts (not ends.ok) (is_pp t.pp c.pp) bad).1;
          })
          (λ lost. due_one c.pp (and_parts (are_over ts2 && not (is_kept core2 o2.request) && not o.older) (is_among (due_of core2 o2.request) c.pp) lost).1)
          (or_either (not ends.ok && is_pp t.pp c.pp) (are_over ts2 && not (is_kept core2 o2.request) && not o.older && is_among (due_of core2 o2.request) c.pp) test)

      of : ending.SyncFailed ≡ h → (m : Option OpenCopy) → old.core.copy ≡ m → option_map_or (hits_copy core2 o2 ends.ok t.pp) m false ≡ true → IsHit h
      of so None none test = absurd (cc test)
      of so (Some c) open_is test =
          let outer = and_parts (is_write o.request.ask && is_running c) (not ends.ok && is_pp t.pp c.pp || (are_over ts2 && not (is_kept core2 o2.request) && not o.older && is_among (due_of core2 o2.request) c.pp)) test in
          record { copy = c; is_open = open_is; running = (and_parts (is_write o.request.ask) (is_running c) outer.0).1; target = which c outer.1; fails = sym so }

      by : (b : Bool) → option_map_or (hits_copy core2 o2 ends.ok t.pp) old.core.copy false ≡ b → ends_if b ending.SyncFailed ≡ Some h → IsHit h
      by false test so = absurd (cc so)
      by true test so = of (same_Some ending.SyncFailed h so) old.core.copy refl test

  -- it is whole, where its partition is marked
  record IsMarked (p : Pp) : Type 0 where
    kind : CopyEnd
    its_hit : IsHit kind
    all : is_whole old.core its_hit.copy ≡ true
    same : p ≡ its_hit.copy.pp

  marked : (p : Pp) → marked_by_end core2 how p ≡ true → IsMarked p
  marked p is = by how refl is
    where
      by : (e : Option CopyEnd) → how ≡ e → marked_by_end core2 e p ≡ true → IsMarked p
      by None none test = absurd (cc test)
      by (Some h) some test =
          let x : IsHit h = hit h some in
          let both = and_parts (not (is_done_end h)) (option_map_or (λ (c : OpenCopy). is_whole core2 c && is_pp p c.pp && (not c.moves || is_held_stale core2 c.pp)) old.core.copy false) test in
          let here : (is_whole old.core x.copy && is_pp p x.copy.pp && (not x.copy.moves || is_held_stale old.core x.copy.pp)) ≡ true = sym (ap (λ (m : Option OpenCopy). option_map_or (λ (c : OpenCopy). is_whole old.core c && is_pp p c.pp && (not c.moves || is_held_stale old.core c.pp)) m false) x.is_open) ∙ both.1 in
          let parts_of = and_parts (is_whole old.core x.copy) (is_pp p x.copy.pp) (and_parts (is_whole old.core x.copy && is_pp p x.copy.pp) (not x.copy.moves || is_held_stale old.core x.copy.pp) here).0 in
          record { kind = h; its_hit = x; all = parts_of.0; same = pp_same p x.copy.pp parts_of.1 }

  keeper_not_marked : marked_by_end core2 how stays.keeper.pp ≡ false
  keeper_not_marked = by (marked_by_end core2 how stays.keeper.pp) refl
    where
      by : (b : Bool) → marked_by_end core2 how stays.keeper.pp ≡ b → b ≡ false
      by false is = refl
      by true is =
          let m = marked stays.keeper.pp is in
          let stale = whole_stale past old tied m.its_hit.copy m.its_hit.is_open m.its_hit.running m.all in
          clash_gives (v.committed.value.stale stays.keeper.pp) (ap v.committed.value.stale m.same ∙ stale) keeper_seen

  module _ (status : Stored) (wants : WantsStale due core2.status status) where
    from_target : (p : Pp) → IsTargets p → Replaced w (marks_of v.beside status.wanted) p
    from_target p x = record {
      lv = lv_of o.request.ask;
      block = at_of o.request.ask;
      other = stays.keeper.pp;
      copy = subst (λ (c : Pp). IsTrue (v.is_copy (lv_of o.request.ask) (at_of o.request.ask) c)) x.there (its_copy x.one x.its_one);
      other_copy = its_copy stays.keeper stays.one;
      fresh = keeper_seen;
      kept = stale_apart v.beside status.wanted stays.keeper.pp keeper_apart ∙ wants.stale stays.keeper.pp ∙ (λ k. keeper_wanted k || (keeper_not_due k || keeper_not_marked k));
    }

    replaced : (p : Pp) → due p ≡ true → IsTrue (w.wanted.stale p) ⊎ Replaced w (marks_of v.beside status.wanted) p ⊎ ((lv b : ℕ) → IsTrue (w.is_copy lv b p) → ⊥)
    replaced p is = ⊎_elim
        (λ among. inr (inl (from_target p (due_one p among))))
        (λ mark. let m = marked p mark in inr (inl (subst (Replaced w (marks_of v.beside status.wanted)) (sym m.same) (from_target m.its_hit.copy.pp m.its_hit.target))))
        (or_either (is_among (due_of core2 o2.request) p) (marked_by_end core2 how p) is)

    abbrev marks : Marks
    marks = marks_of v.beside status.wanted

    -- one that ends is wanted stale
    ends_stale : (h : CopyEnd) → how ≡ Some h → (x : ModelCopy) → v.open_copy ≡ Some x → IsTrue (marks.stale x.target)
    ends_stale h is x open_is =
        let its_hit = hit h is in
        let c : OpenCopy = its_hit.copy in
        let brought = (opened past old tied c its_hit.is_open its_hit.running).0 in
        ap marks.stale (brought.target x open_is) ∙ seen c its_hit.is_open its_hit.running (ap (λ (e : Option CopyEnd). marked_by_end core2 e c.pp) (is ∙ ap (λ (e : CopyEnd). Some e) its_hit.fails)) c.moves refl
      where
        by : (c : OpenCopy) → old.core.copy ≡ Some c → c.moves ≡ false → (is_whole old.core c ≡ false → calls_stale old.core.status.wanted c.pp ≡ true) → marked_by_end core2 how c.pp ≡ option_map_or (λ (y : OpenCopy). is_whole old.core y && is_pp c.pp y.pp && (not y.moves || is_held_stale old.core y.pp)) old.core.copy false
            → (b : Bool) → is_whole old.core c ≡ b → (calls_stale old.core.status.wanted c.pp ≡ true) ⊎ (due c.pp ≡ true)
        by c here fixed stale mark false part = inl (stale part)
        by c here fixed stale mark true all = inr (or_true (is_among (due_of core2 o2.request) c.pp) (marked_by_end core2 how c.pp)
            (inr (mark ∙ ap (λ (m : Option OpenCopy). option_map_or (λ (y : OpenCopy). is_whole old.core y && is_pp c.pp y.pp && (not y.moves || is_held_stale old.core y.pp)) m false) here ∙ (λ k. all k && same_pp c.pp c.pp refl k && (not (fixed k) || is_held_stale old.core c.pp)))))

        seen : (c : OpenCopy) → old.core.copy ≡ Some c → is_running c ≡ true → marked_by_end core2 how c.pp ≡ option_map_or (λ (y : OpenCopy). is_whole old.core y && is_pp c.pp y.pp && (not y.moves || is_held_stale old.core y.pp)) old.core.copy false
            → (m : Bool) → c.moves ≡ m → IsTrue (marks.stale c.pp)
        seen c here runs mark true moves = beside_stale v.beside status.wanted c.pp (destination_beside old.core c v.beside tied.sees.beside here moves)
        seen c here runs mark false stays_so = stale_so v.beside status.wanted c.pp
            (wants.stale c.pp ∙ or_true (calls_stale old.core.status.wanted c.pp) (due c.pp) (by c here stays_so (λ part. ((stale_of old.core c (copy_is past old tied c here) stays_so).stale runs part).1) mark (is_whole old.core c) refl))

    -- ---- what the state wants

    marks_are : (p : Pp) → marks.stale p ≡ is_beside v.beside p || (calls_stale old.core.status.wanted p || due p)
    marks_are p = ap (λ b. is_beside v.beside p || b) (wants.stale p)

    marks_were : (p : Pp) → v.wanted.stale p ≡ is_beside v.beside p || calls_stale old.core.status.wanted p
    marks_were p = ap (λ (m : Marks). m.stale p) tied.sees.status.wanted

    still : (p : Pp) → IsTrue (w.wanted.stale p) → IsTrue (marks.stale p)
    still p is = marks_are p ∙ wider (is_beside v.beside p) (calls_stale old.core.status.wanted p) (due p) (sym (marks_were p) ∙ is)
      where
        wider : (x y z : Bool) → x || y ≡ true → x || (y || z) ≡ true
        wider true y z h = refl
        wider false true z h = refl
        wider false false z h = absurd (cc h)

    parted : (x y z : Bool) → x || (y || z) ≡ true → (x || y ≡ true) ⊎ (z ≡ true)
    parted true y z h = inl refl
    parted false true z h = inl refl
    parted false false z h = inr h

    open_same : (e : Option CopyEnd) → ((h : CopyEnd) → e ≡ Some h → (x : ModelCopy) → v.open_copy ≡ Some x → IsTrue (marks.stale x.target))
        → (open_after e v.open_copy ≡ v.open_copy) ⊎ ((open_after e v.open_copy ≡ None) × ((x : ModelCopy) → v.open_copy ≡ Some x → IsTrue (marks.stale x.target)))
    open_same None each = inl refl
    open_same (Some h) each = inr (refl, each h refl)

    open_there : (e : Option CopyEnd) (x : ModelCopy) → open_after e v.open_copy ≡ Some x → IsFalse (v.missing x.target.disk)
    open_there None x is = good_w.sound.statuses.open_there x is
    open_there (Some h) x is = absurd (cc is)

    may_want : Wants w (marks_of v.beside status.wanted) w.missing (open_after how v.open_copy)
    may_want = record {
      missing_still = λ d is. is;
      still = still;
      still_dirty = λ lv is. ap (λ (ns : List ℕ). list_any (λ n. n == lv) ns) wants.dirty ∙ sym (ap (λ (m : Marks). m.dirty lv) tied.sees.status.wanted) ∙ is;
      added = λ p is. ⊎_elim (λ was. inl (marks_were p ∙ was)) (λ its. replaced p its) (parted (is_beside v.beside p) (calls_stale old.core.status.wanted p) (due p) (sym (marks_are p) ∙ is));
      open_same = open_same how ends_stale;
      open_there = open_there how;
      behind = λ lv b c e copy fresh gone other usable kept. still c (good_w.sound.behind.left_behind lv b c e copy fresh gone other usable (false_by (w.wanted.stale e) (marks.stale e) (still e) kept));
    }

    abbrev event : Event
    event = Want (marks_of v.beside status.wanted) w.missing (open_after how v.open_copy)

    abbrev w1 : ModelState
    w1 = after_wants w (marks_of v.beside status.wanted) w.missing (open_after how v.open_copy)

    abbrev core3 : Core
    core3 = record core2 { status = status }

    describes1 : Describes w1 w1.facts old.core.descriptor (update_of status) now
    describes1 = subst (λ (u : Option (Stamped Status)). Describes w1 w1.facts old.core.descriptor u now) (sym (update_same core2.status status wants.rest wants.missing))
        (quiet_lasts tied.votes event w w1 old.core.descriptor (update_of old.core.status) now (may_want, refl) good_w tt wrote.describes refl refl refl)

    abbrev near : IsNear past new.device core3 how
    near = record {
      votes = tied.votes;
      media = ended.media;
      setting = record {
        are_votes = tied.setting.are_votes;
        told = ended.told;
        own = tied.setting.own;
      };
      view = w1;
      open_copy = v.open_copy;
      sees = sees_wanted core2.status status wants.rest wants.missing past core2 w refl sees_w;
      ended = refl;
      good = each_keeps tied.votes event w w1 (may_want, refl) good_w;
      describes = subst (λ (sizes : List ℕ). Describes w1 w1.facts old.core.descriptor (update_of status) (contents_of (image_of sizes ended.media))) (sym ended.sizes) describes1;
      write = tied.write;
      since = subst (OnlyUpdateSince new.device tied.write) (sym (update_same core2.status status wants.rest wants.missing)) (since_ended tied.write (update_of old.core.status) tied.since);
      recorded = record {
        next = subst (λ (sizes : List ℕ). MayUpdate old.core.descriptor status old.core.homes (image_of sizes ended.media)) (sym ended.sizes)
            (next_same core2.status status wants.rest wants.missing old.core.descriptor old.core.homes (image_of old.device.sizes ended.media) next_w);
        members = λ d member first. subst (λ (sizes : List ℕ). IsTrue (members_showing (contents_of (image_of sizes ended.media)) old.core.descriptor d)) (sym ended.sizes)
            (ap (λ (c : Contents). members_showing c old.core.descriptor d) group_same.rest ∙ tied.recorded.members d member first);
        records = subst (λ (sizes : List ℕ). ShowsRecords old.core.descriptor status (contents_of (image_of sizes ended.media))) (sym ended.sizes)
            (records_wanted core2.status status wants.rest wants.missing old.core.descriptor now
            (records_kept old.core.descriptor old.core.status (image_of old.device.sizes tied.media) (image_of old.device.sizes ended.media) same_records tied.recorded.records));
        committed = subst (λ (sizes : List ℕ). CommittedIsOne v.committed.stamp old.core.descriptor status (contents_of (image_of sizes ended.media))) (sym ended.sizes)
            (one_wanted core2.status status wants.rest wants.missing (one_kept (image_of old.device.sizes tied.media) (image_of old.device.sizes ended.media) same_records tied.recorded.committed));
      };
      notes = λ d items flies. subst (λ (st : Stamp). IsNote (record { stamp = st.epoch; entries = items.items })) (sym (stamp_same core2.status status wants.rest wants.missing)) (tied.notes d items flies);
      copy_aimed = tied.copy_aimed;
      carry = subst (λ (fs : List Flight). CarryTheirs core3 w1 fs (remove old.core.flying index)) (sym ended.removes.is)
          ((its_row core3 w1).carry (carries status w1 refl) (subst (λ (fs : List Flight). CarryTheirs old.core v fs old.core.flying) ended.removes.was tied.carry));
    }

    runs : (h : CopyEnd) → how ≡ Some h → IsRunning core3
    runs h is = let its_hit = hit h is in record { copy = its_hit.copy; is_open = its_hit.is_open; runs = its_hit.running }

    pub wanted_ties : IsSound (state new.device (with_copy_end core3 how)) → IsTied past (state new.device (with_copy_end core3 how))
    wanted_ties sound = near_ties past new.device core3 how near runs
        (ended_orderly new.device core3 how tied.write sound tied.orderly.on (write_same core2.status status wants.rest wants.missing old.core.homes tied.write tied.orderly.update))

  tied_after : IsSound new → IsTied past new
  tied_after sound =
      let entails : Entails core2 o2 ends.ok t.pp new.core = subst (λ (x : Open). Entails core2 x ends.ok t.pp new.core) learned_is (subst (λ (c : Core). Entails c (learned o number ends.ok ends.buf) ends.ok t.pp new.core) after_is learns.entails) in
      let is : new.core ≡ with_copy_end (record core2 { status = new.core.status }) how = entailed_is core2 o2 ends.ok t.pp new.core entails in
      let all : new ≡ state new.device (with_copy_end (record core2 { status = new.core.status }) how) = λ k. record { device = new.device; core = is k } in
      subst (IsTied past) (sym all) (wanted_ties new.core.status entails.marks (subst IsSound all sound))

pub write_end_ties : WriteEndTies
write_end_ties at id target past old new tied sound event = tied_after past old new at event.1.ends id target event.1.own event.1.learns tied event.1.writes event.0 sound

pub data_end_ties : DataEndTies
data_end_ties at id target past old new tied sound event = by (is_write learns.its.request.request.ask) refl
  where
    learns : DataLearns old.core at id target event.1.ends.ok event.1.ends.buf new.core
    learns = subst (λ (who : Owner). Learns who old.core at event.1.ends.ok event.1.ends.buf new.core) event.1.own event.1.ends.learns

    by : (w : Bool) → is_write learns.its.request.request.ask ≡ w → IsTied past new
    by true writes = write_end_ties at id target past old new tied sound (event.0, record { ends = event.1.ends; own = event.1.own; learns = learns; writes = writes })
    by false reads = read_end_ties at id target past old new tied sound (record { ends = event.1.ends; own = event.1.own; learns = learns; reads = reads })
