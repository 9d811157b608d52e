-- The end of a read's transfer, tied.
use Rattle.std.proofs.Common.{◌≡◌, ◌⊎◌, inl, inr, ℕ, zero, suc, ◌-◌, Bool, true, false, ◌&&◌, ◌||◌, ◌==◌, not, List, [], ◌∷◌, Option, Some, None, refl, sym, ap, subst, ◌∙◌, arith}
use Rattle.std.specs.Prelude.{IsTrue, if◌then◌else◌, slice_get, slice_set, nat_le, slice_index_or}
use Rattle.std.specs.List.{list_any, remove}
use Rattle.std.specs.Option.{option_map, option_map_or}
use Rattle.std.proofs.lemmas.Bool.{cases_eq}
use Rattle.std.proofs.lemmas.Bool.Decides.{nat_tests}
use Rattle.lvm_num.specs.declared.place.Pp.{Pp}
use Rattle.lvm_num.specs.declared.status.Status.{Status}
use Rattle.lvm_num.specs.Buffer.{Buffer, Sector}
use Rattle.lvm_num.specs.Record.{Stamped}
use Rattle.lvm_vol.specs.Facts.{Fact}
use Rattle.lvm_disk.specs.Device.{Media, Flight, image_of}
use Rattle.lvm_kept.specs.Contents.{contents_of}
use Rattle.lvm_kept.specs.Torn.{RecordWrite}
use Rattle.lvm_status.specs.Update.{Stored}
use Rattle.lvm_sched.specs.declared.writes.TargetState.{TargetState}
use Rattle.lvm_sched.specs.declared.writes.TargetState.TheVariants as target
use Rattle.lvm_path.specs.declared.target.Target.{Target}
use Rattle.lvm_path.specs.Asks.{is_write}
use Rattle.lvm_path.specs.Targets.{is_begun, are_over, with_state, end_state}
use Rattle.lvm_session.specs.declared.open.Open.{Open}
use Rattle.lvm_session.specs.declared.bringing.OpenCopy.{OpenCopy}
use Rattle.lvm_session.specs.declared.bringing.CopyEnd.{CopyEnd}
use Rattle.lvm_session.specs.declared.bringing.Step.{Step}
use Rattle.lvm_session.specs.declared.bringing.Step.TheVariants as step
use Rattle.lvm_session.specs.declared.flown.Owner.{Owner}
use Rattle.lvm_session.specs.declared.flown.Owner.TheVariants as owner
use Rattle.lvm_session.specs.State.{Core, State, state}
use Rattle.lvm_session.specs.Judging.{is_waiting, place_of, is_running, is_kept, pps_of}
use Rattle.lvm_invariant.specs.State.{ModelState, Stage, Going, Queued, Marks, covers, ModelPhase}
use Rattle.lvm_path.specs.declared.request.Phase.TheVariants as phase
use Rattle.lvm_path.specs.Next.{with_end}
use Rattle.lvm_session.specs.Bringing.{has_row, is_out, is_whole, marked_by_end, with_back, with_end as with_copy_end}
use Rattle.lvm_session.specs.Events.{IsDataTransfer}
use Rattle.lvm_session.specs.Ends.{keeps_buffer, learned, after_data, DataLearns, Ends}
use Rattle.lvm_sched.specs.Writes.{is_waiting as target_waits}
use Rattle.lvm_num.specs.Descriptor.{is_pp}
use Rattle.lvm_num.proofs.Booleans.{clash_gives}
use Rattle.lvm_invariant.specs.Events.{Read}
use Rattle.lvm_invariant.proofs.EventsLemmas.Each.{each_keeps}
use Rattle.lvm_even.specs.Members.{members_showing}
use Rattle.lvm_crash.specs.Session.{Describes}
use Rattle.lvm_crash.proofs.BringingLemmas.{read_leaves, read_gets}
use Rattle.lvm_crash.proofs.RecordsLemmas.Quiet.{quiet_lasts, update_goes_on}
use Rattle.lvm_crash.specs.Bringing.{IsReading, in_buffer}
use Rattle.lvm_crash.specs.Owned.{OnlyUpdateSince}
use Rattle.lvm_crash.specs.Writing.{stage_of}
use Rattle.lvm_tie.proofs.SeenLemmas.Changing.{stage_after, same_long, step_apart, sees_changed}
use Rattle.lvm_tie.proofs.StateLemmas.{aimed_of}
use Rattle.lvm_tie.proofs.TiedLemmas.Orderly.{AreOut, HasTargets, HaveNumbers, HaveTickets, IsDataOut, IsOut, begun_by, numbers_of, orderly_same, out_of, targets_of, tickets_of, valid_of}
use Rattle.lvm_tie.proofs.TiedLemmas.Tied.{stage_found}
use Rattle.lvm_tie.specs.Out.{CarriesStep, CarryTheirs, MayUpdate}
use Rattle.lvm_tie.specs.Seen.{stage_seen, stage_at, phase_seen, SeesRequest, update_of}
use Rattle.lvm_tie.specs.Tied.{IsTied, ShowsRecords, CommittedIsOne}
use Rattle.lvm_session.specs.Marks.{WantsStale, Entails, is_among, due_targets, due_of, end_by_write}
use Rattle.lvm_invariant.specs.Updates.{put}
use Rattle.std.proofs.lemmas.Option.{same_Some}
use Rattle.lvm_invariant.specs.Read.{ReadsFromCopy as Reading, reading}
use Rattle.lvm_session.specs.Sound.{IsSound}
use Rattle.lvm_tie.specs.Ends.{ReadEndTies}
use Rattle.lvm_tie.proofs.OutLemmas.Ended.{HasEnded, IsRow, has_ended, is_row}

-- the target that has changed
pub state_there : (ts : List Target) (number : ℕ) (t : Target) (state : TargetState) → slice_get ts number ≡ Some t → slice_get (with_state ts number state) number ≡ Some (record t { state = state })
state_there [] number t state there = absurd cc
state_there (u ∷ us) zero t state there = ap (λ (x : Target). Some (record x { state = state })) (same_Some u t there)
state_there (u ∷ us) (suc number) t state there = state_there us number t state there

going_by : (w : Bool) (over : Bool) → w ≡ false → (if w && over then phase.WantStatus else phase.Data) ≡ phase.Data
going_by w over is = ap (λ b. if b && over then phase.WantStatus else phase.Data) is

module _ (past : List Fact) (old new : State) (index : ℕ) (ends : Ends old new index) (id number : ℕ) (its_owner : ends.row.owner ≡ owner.Data id number) (learns : DataLearns old.core index id number ends.ok ends.buf new.core) (tied : IsTied past old) (sound : IsSound new)
    (reads : is_write learns.its.request.request.ask ≡ false) where
  abbrev o : Open
  o = learns.its.request

  abbrev t : Target
  t = learns.its.aim

  abbrev ts : List Target
  ts = o.request.targets.items

  abbrev v : ModelState
  v = tied.view

  abbrev i : ℕ
  i = place_of o.request.id

  abbrev got_after : Bool → Option Buffer
  got_after b = if b then Some ends.buf else o.got

  abbrev o2 : Open
  o2 = record o { request = with_end o.request number ends.ok; got = got_after ends.ok }

  abbrev core2 : Core
  core2 = record old.core { requests = slice_set old.core.requests learns.place o2; flying = remove old.core.flying index; pool = if ends.ok then old.core.pool else slice_set old.core.pool ends.buf.number false }

  numbers : HaveNumbers old.core
  numbers = numbers_of old tied.write tied.orderly

  tickets : HaveTickets old.core.flying
  tickets = tickets_of old tied.write tied.orderly

  kept_buffer : keeps_buffer o ends.ok ≡ ends.ok
  kept_buffer = ap (λ w. ends.ok && not w) reads ∙ and_true ends.ok
    where
      and_true : (b : Bool) → (b && true) ≡ b
      and_true true = refl
      and_true false = refl

  after_is : after_data old.core index learns.place o number ends.ok ends.buf ≡ core2
  after_is = ap (λ b. with_part (with_back old.core.pool (if b then None else Some ends.buf)) (if b then Some ends.buf else o.got)) kept_buffer ∙ either ends.ok
    where
      with_part : List Bool → Option Buffer → Core
      with_part pool got = record old.core { requests = slice_set old.core.requests learns.place (record o { request = with_end o.request number ends.ok; got = got }); flying = remove old.core.flying index; pool = pool }

      either : (b : Bool) → with_part (with_back old.core.pool (if b then None else Some ends.buf)) (got_after ends.ok) ≡ with_part (if b then old.core.pool else slice_set old.core.pool ends.buf.number false) (got_after ends.ok)
      either true = refl
      either false = refl

  learned_is : learned o number ends.ok ends.buf ≡ o2
  learned_is = ap (λ b. record o { request = with_end o.request number ends.ok; got = if b then Some ends.buf else o.got }) kept_buffer

  ended : HasEnded old.device new.device ends.row.ticket ends.ok ends.buf tied.media
  ended = has_ended old.device new.device ends.row.ticket ends.ok ends.buf tied.media ends.returns.ends tied.setting.told

  abbrev f : Flight
  f = ended.flight

  abbrev q : Queued
  q = (tied.sees.queue.requests learns.place o learns.its.there).0

  at : v.queue i ≡ Some q
  at = (tied.sees.queue.requests learns.place o learns.its.there).1

  sees : SeesRequest o q
  sees = (tied.sees.queue.requests learns.place o learns.its.there).2

  its_row : (u : ModelState) → IsRow old.core core2 tied.write v u ended.removes.before ended.removes.after f old.core.flying index ends.row
  its_row u = is_row old.core core2 tied.write v u ended.removes.before ended.removes.after f old.core.flying index ends.row
      (subst (λ (fs : List Flight). AreOut old.core tied.write fs old.core.flying) ended.removes.was (out_of old tied.write tied.orderly tied.notes)) tickets ends.returns.there ended.its

  found : IsDataOut old.core f o.request.id number
  found = subst (IsOut old.core tied.write f) (its_owner ∙ ap (λ n. owner.Data n number) (sym learns.own)) (its_row v).out

  place_is : found.place ≡ learns.place
  place_is = numbers found.place learns.place found.request o found.there learns.its.there found.own

  request_is : found.request ≡ o
  request_is = same_Some found.request o (sym found.there ∙ ap (slice_get old.core.requests) place_is ∙ learns.its.there)

  aim_same : found.aim ≡ t
  aim_same = same_Some found.aim t (sym found.aim_is ∙ ap (λ (x : Open). slice_get x.request.targets.items number) request_is ∙ learns.its.aim_is)

  waits : is_waiting o ≡ true
  waits = sym (ap is_waiting request_is) ∙ found.waiting

  its : HasTargets old.core o
  its = targets_of old tied.write tied.orderly learns.place o learns.its.there waits

  moving : o.request.phase ≡ phase.Data
  moving = sym (ap (λ (x : Open). x.request.phase) request_is) ∙ found.moving

  flies : t.state ≡ target.Flying
  flies = sym (ap (λ (x : Target). x.state) aim_same) ∙ found.flies

  moves : IsDataTransfer old.core o.request t f
  moves = subst (λ (x : Target). IsDataTransfer old.core o.request x f) aim_same (subst (λ (x : Open). IsDataTransfer old.core x.request found.aim f) request_is found.moves)

  is_reading : IsReading old.core.descriptor.mib q t.pp f
  is_reading = record {
    read = moves.write ∙ reads;
    disk = moves.disk_is;
    first = moves.first ∙ its.sectors number t learns.its.aim_is
        ∙ ap (Rattle.lvm_num.specs.Geometry.sector_of old.core.descriptor.mib t.pp.pp) (sym sees.first);
    count = moves.count ∙ sym sees.count;
  }

  same_media : ended.media ≡ tied.media
  same_media = read_leaves f ends.ok tied.media ended.media (moves.write ∙ reads) ended.lands

  begun_before : is_begun ts ≡ true
  begun_before = begun_by ts number t learns.its.aim_is (ap target_waits flies)

  going : q.phase ≡ Going
  going = sees.phase ∙ (λ k. phase_seen (moving k) (begun_before k))

  is_copy : IsTrue (v.is_copy q.lv q.first t.pp)
  is_copy = (λ k. v.is_copy (sees.lv k) (sees.first k) t.pp) ∙ aimed_of past old tied learns.place number o t learns.its.there waits learns.its.aim_is

  abbrev value : ℕ → Sector
  value b = in_buffer q ends.buf b

  abbrev got2 : Bool → Option (ℕ → Sector)
  got2 b = if b then Some value else q.got

  may : Reading v i q t.pp (got2 ends.ok)
  may = record { there = at; read = sees.write ∙ reads; past = ap Rattle.lvm_invariant.specs.State.is_past going; was = (stage_seen t.state, sees.targets t.pp ∙ stage_found ts number t its.differ learns.its.aim_is); gets = λ x is. by ends.ok refl x is }
    where
      by : (b : Bool) → ends.ok ≡ b → (x : ℕ → Sector) → got2 b ≡ Some x → (q.got ≡ Some x) ⊎ ((lv b : ℕ) → IsTrue (covers q lv b) → x b ≡ v.media.block lv b t.pp)
      by false is x h = inl h
      by true is x h = inr (λ lv b over.
          let same : value ≡ x = same_Some value x h in
          sym (ap (λ (y : ℕ → Sector). y b) same)
          ∙ read_gets tied.votes v i q t.pp old.core.descriptor (update_of old.core.status) old.device.sizes tied.media f ends.buf (valid_of old tied.write tied.orderly) tied.good tied.describes at is_copy is_reading (ended.reads is (moves.write ∙ reads)) lv b over)

  abbrev q2 : Queued
  q2 = reading q t.pp (stage_of ends.ok) (got2 ends.ok)

  abbrev w : ModelState
  w = record v { queue = put v.queue i q2 }

  abbrev ts2 : List Target
  ts2 = with_state ts number (end_state ends.ok)

  stage_ended : (ok : Bool) → stage_of ok ≡ stage_seen (end_state ok)
  stage_ended true = refl
  stage_ended false = refl

  over_not_waiting : (ok : Bool) → target_waits (end_state ok) ≡ false
  over_not_waiting true = refl
  over_not_waiting false = refl

  begun : is_begun ts2 ≡ true
  begun = begun_by ts2 number (record t { state = end_state ends.ok }) (state_there ts number t (end_state ends.ok) learns.its.aim_is) (over_not_waiting ends.ok)

  got_seen : (b : Bool) (buf : Buffer) → got_after b ≡ Some buf → (x : ℕ → Sector) × (got2 b ≡ Some x) × ((n : ℕ) → x n ≡ slice_index_or buf.sectors (n - q.first) [])
  got_seen true buf is = let same : ends.buf ≡ buf = same_Some ends.buf buf is in (value, refl, λ n. ap (λ (y : Buffer). slice_index_or y.sectors (n - q.first) []) same)
  got_seen false buf is = sees.got buf is

  sees2 : SeesRequest o2 q2
  sees2 = record {
    lv = sees.lv;
    first = sees.first;
    count = sees.count;
    write = sees.write;
    step = sees.step;
    phase = (λ k. phase_seen (sym (going_by (is_write o.request.ask) (are_over ts2) reads) k) (sym begun k)) ∙ (λ k. phase_seen (if is_write o.request.ask && are_over ts2 then phase.WantStatus else sym moving k) (is_begun ts2));
    several = sees.several ∙ ap (nat_le 2) (sym (same_long ts number (end_state ends.ok)));
    targets = λ e. ap (λ x. if is_pp e t.pp then Some (stage_of ends.ok) else x) (sees.targets e)
        ∙ ap (λ (s : Stage). if is_pp e t.pp then Some s else stage_at ts e) (stage_ended ends.ok)
        ∙ sym (stage_after ts number t (end_state ends.ok) its.differ learns.its.aim_is e);
    got = got_seen ends.ok;
  }

  carries : (g : Flight) (who : Owner) → CarriesStep old.core v g who → CarriesStep core2 w g who
  carries g (owner.Data id n) c = tt
  carries g (owner.Status disk) c = tt
  carries g (owner.Note disk) c = tt
  carries g owner.Copy carried = λ c p is writing here. carried c p is writing (sym (elsewhere c is writing) ∙ here)
    where
      elsewhere : (c : OpenCopy) → old.core.copy ≡ Some c → c.step ≡ step.Writing → w.queue c.place ≡ v.queue c.place
      elsewhere c is writing = elim (cases_eq c.place i) [
        | inl e ↦ absurd (step_apart past old.core v learns.place o o2 q2 core2.pool core2.flying old.core.last old.core.queue old.core.cache.entries v.media.block tied.sees numbers learns.its.there refl sees2 (λ lv g2. refl) c is
            (ap (λ (st : Step). is_out st || (is_running c && not (is_whole old.core c))) writing) e)
        | inr ne ↦ let test : (c.place == i) ≡ false = grind (arith, nat_tests) in ap (λ b. if b then Some q2 else v.queue c.place) test
      ]

  since_ended : (x : Option RecordWrite) (u : Option (Stamped Status)) → OnlyUpdateSince old.device x u → OnlyUpdateSince new.device x u
  since_ended None None since = tt
  since_ended (Some x) (Some u) since = update_goes_on x u old.device new.device ended.step (ended.planned x) since
  since_ended (Some x) None since = absurd since
  since_ended None (Some u) since = absurd since

  none_due : (p : Pp) → (is_among (due_of core2 o2.request) p || false) ≡ false
  none_due p = ap (λ w2. is_among (if w2 && are_over ts2 then pps_of (due_targets core2 o2.request) else []) p || false) reads

  no_end : end_by_write core2 o2 ends.ok t.pp ≡ None
  no_end = by old.core.copy
    where
      by : (c : Option OpenCopy) → Rattle.lvm_session.specs.Bringing.ends_if (Rattle.std.specs.Option.option_map_or (Rattle.lvm_session.specs.Marks.hits_copy core2 o2 ends.ok t.pp) c false) Rattle.lvm_session.specs.declared.bringing.CopyEnd.TheVariants.SyncFailed ≡ None
      by None = refl
      by (Some c) = ap (λ w2. Rattle.lvm_session.specs.Bringing.ends_if (w2 && is_running c && (not ends.ok && is_pp t.pp c.pp || (are_over ts2 && not (is_kept core2 o2.request) && not o2.older && is_among (due_of core2 o2.request) c.pp))) Rattle.lvm_session.specs.declared.bringing.CopyEnd.TheVariants.SyncFailed) reads

  pub tied_after : IsTied past new
  tied_after =
      let entails : Entails core2 o2 ends.ok t.pp new.core = subst (λ (x : Open). Entails core2 x ends.ok t.pp new.core) learned_is (subst (λ (c : Core). Entails c (learned o number ends.ok ends.buf) ends.ok t.pp new.core) after_is learns.entails) in
      let marks : WantsStale (λ p. is_among (due_of core2 o2.request) p || false) core2.status new.core.status =
      subst (λ (e : Option CopyEnd). WantsStale (λ p. is_among (due_of core2 o2.request) p || marked_by_end core2 e p) core2.status new.core.status) no_end entails.marks in
      let same : new.core.status ≡ core2.status = marks.same (λ p due. clash_gives (is_among (due_of core2 o2.request) p || false) due (none_due p)) in
      let is : new.core ≡ core2 = entails.is ∙ ap (λ (e : Option CopyEnd). record (with_copy_end core2 e) { status = new.core.status }) no_end ∙ ap (λ (s : Stored). record core2 { status = s }) same in
      let whole : new ≡ state new.device core2 = λ k. record { device = new.device; core = is k } in
      subst (IsTied past) (sym whole) (record {
        votes = tied.votes;
        media = tied.media;
        setting = record {
          are_votes = tied.setting.are_votes;
          told = ended.told ∙ ap (λ (m : Media). Some m) same_media;
          own = tied.setting.own;
        };
        view = w;
        sees = sees_changed past old.core v learns.place o o2 q2 core2.pool core2.flying old.core.last old.core.queue old.core.cache.entries v.media.block tied.sees numbers learns.its.there refl sees2 (λ lv g. refl);
        good = each_keeps tied.votes (Read i q t.pp (stage_of ends.ok) (got2 ends.ok)) v w (may, refl) tied.good;
        describes = subst (λ (sizes : List ℕ). Describes w w.facts old.core.descriptor (update_of old.core.status) (contents_of (image_of sizes tied.media))) (sym ended.sizes)
            (quiet_lasts tied.votes (Read i q t.pp (stage_of ends.ok) (got2 ends.ok)) v w old.core.descriptor (update_of old.core.status) (contents_of (image_of old.device.sizes tied.media)) (may, refl) tied.good tt tied.describes refl refl refl);
        write = tied.write;
        orderly = orderly_same old (state new.device core2) tied.write tied.orderly (subst IsSound whole sound) refl refl refl;
        since = since_ended tied.write (update_of old.core.status) tied.since;
        recorded = record {
          next = subst (λ (sizes : List ℕ). MayUpdate old.core.descriptor old.core.status old.core.homes (image_of sizes tied.media)) (sym ended.sizes) tied.recorded.next;
          members = λ d member first. subst (λ (sizes : List ℕ). IsTrue (members_showing (contents_of (image_of sizes tied.media)) old.core.descriptor d)) (sym ended.sizes) (tied.recorded.members d member first);
          records = subst (λ (sizes : List ℕ). ShowsRecords old.core.descriptor old.core.status (contents_of (image_of sizes tied.media))) (sym ended.sizes) tied.recorded.records;
          committed = subst (λ (sizes : List ℕ). CommittedIsOne tied.view.committed.stamp old.core.descriptor old.core.status (contents_of (image_of sizes tied.media))) (sym ended.sizes) tied.recorded.committed;
        };
        notes = tied.notes;
        copy_aimed = tied.copy_aimed;
        carry = subst (λ (fs : List Flight). CarryTheirs core2 w fs (remove old.core.flying index)) (sym ended.removes.is)
            ((its_row w).carry carries (subst (λ (fs : List Flight). CarryTheirs old.core v fs old.core.flying) ended.removes.was tied.carry));
      })

pub read_end_ties : ReadEndTies
read_end_ties index id number past old new tied sound event = tied_after past old new index event.ends id number event.own event.learns tied sound event.reads
