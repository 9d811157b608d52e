-- The transfer of a request has ended, well or badly.
use Rattle.std.proofs.Common.{◌&&◌, ◌+◌, ◌==◌, ap, arith, Bool, false, if◌then◌else◌, inl, inr, length, List, None, not, Option, refl, slice_get, slice_set, Some, subst, sym, true, ◌||◌, ℕ, ◌∙◌, ◌≡◌, ◌≤◌}
use Rattle.std.proofs.lemmas.Bool.{eqb-false, eqb-true}
use Rattle.std.specs.List.{AllByRecursion, remove}
use Rattle.std.specs.Option.{option_map_or}
use Rattle.std.specs.Prelude.{IfSome, unwrap_or}
use Rattle.lvm_num.specs.Buffer.{Buffer}
use Rattle.lvm_num.specs.declared.place.Pp.{Pp}
use Rattle.lvm_disk.specs.Counts.{Counts, Rose}
use Rattle.lvm_disk.specs.Device.{Device, Flight}
use Rattle.lvm_disk.specs.Steps.{CountsFailure}
use Rattle.lvm_hold.specs.Waiting.{Waiting, without}
use Rattle.lvm_num.specs.Descriptor.{is_pp}
use Rattle.lvm_num.proofs.Booleans.{not_so}
use Rattle.lvm_num.proofs.Lists.{all_at}
use Rattle.lvm_path.specs.Asks.{is_write}
use Rattle.lvm_path.specs.Targets.{are_over, is_begun}
use Rattle.lvm_path.specs.declared.request.Request.{Request}
use Rattle.lvm_path.specs.declared.target.Target.{Target}
use Rattle.lvm_status.specs.Runs.{IsSoundStatus}
use Rattle.lvm_status.specs.Update.{seen, Stored}
use Rattle.lvm_session.specs.Bringing.{after_copy_end, ends_if, is_held_stale, hand_of, is_out, is_whole, marked_by_end, with_back, with_copy_end, with_end}
use Rattle.lvm_session.specs.Enabled.{same_status}
use Rattle.lvm_session.specs.Judging.{copies_in, is_running, is_waiting}
use Rattle.lvm_session.specs.State.{Core, state, State}
use Rattle.lvm_session.specs.declared.bringing.CopyEnd.TheVariants as ending
use Rattle.lvm_session.specs.declared.bringing.OpenCopy.{OpenCopy}
use Rattle.lvm_session.specs.declared.flown.Flown.{Flown}
use Rattle.lvm_session.specs.declared.flown.Owner.TheVariants as owner
use Rattle.lvm_session.specs.declared.open.Open.{Open}
use Rattle.lvm_session.specs.declared.open.Power.TheVariants as power
use Rattle.lvm_session.specs.Dark.{IsAscending}
use Rattle.lvm_session.specs.Ends.{EndsAs, given_back}
use Rattle.lvm_session.specs.Events.{IsDataTransfer}
use Rattle.lvm_session.specs.Marks.{due_of, Entails, hits_copy, is_among, WantsStale}
use Rattle.lvm_session.specs.Causes.{IsChosenSince, IsCausedAmong}
use Rattle.lvm_session.specs.Left.{copy_updates, if_so, marks_later}
use Rattle.lvm_session.specs.Owners.{IsDataOf, IsTransferOf}
use Rattle.lvm_session.specs.Requests.{IsShaped, IsTarget}
use Rattle.lvm_session.specs.Sound.{count_if, IsGoing, IsSound}
use Rattle.lvm_keeps.proofs.Lists.{get_removed}
use Rattle.lvm_keeps.proofs.Small.{both}
use Rattle.lvm_keeps.proofs.RequestsLemmas.{if_on}
use Rattle.lvm_keeps.proofs.DarkLemmas.Tables.{apart}
use Rattle.lvm_keeps.proofs.LeftLemmas.Updates.{one_if}
use Rattle.lvm_keeps_events.proofs.EndsLemmas.CopyQuit.{is_back, IsBack}
use Rattle.lvm_keeps_events.proofs.EndsLemmas.Counts.{counts_keep}
use Rattle.lvm_keeps_events.proofs.OwnersLemmas.Removal.{IsOut, taken_out}
use Rattle.lvm_keeps_events.proofs.JudgingLemmas.DuesMarks.{due_one}
use Rattle.lvm_keeps_events.proofs.JudgingLemmas.Entailing.{fails, IsEntailed, running, stays}
use Rattle.lvm_keeps_events.proofs.CausesLemmas.{back_twice, cause, keeps, now, same_cause}
use Rattle.lvm_keeps_events.proofs.RequestsLemmas.{begun_now, learnt, learnt_is, not_over, request, waits}
use Rattle.lvm_keeps_events.proofs.Lists.{and_false, or_false}
use Rattle.lvm_keeps_events.proofs.JudgingLemmas.Staling.{IsStaled, staled}
use Rattle.lvm_keeps_events.specs.DataEnds.{DataEndKeeps, EndsData}

-- ---- the transfer

-- a transfer that has ended: its buffer is whole where it ended well, and counts as a failure where it didn't
pub record IsEnd (ok : Bool) (old new : Device) (row : Flown) (buf : Buffer) : Type 0 where
  pub back : IsBack old new row buf
  pub long : ok ≡ true → length buf.sectors ≡ length back.flight.buf.sectors
  pub counts : ok ≡ false → CountsFailure back.flight old.counts new.counts

pub is_end : (ok : Bool) (old new : Device) (row : Flown) (buf : Buffer) → EndsAs ok old new row.ticket buf → IsEnd ok old new row buf
is_end true old new row buf e = record { back = record { flight = e.flight; its = e.its; flights = e.flights; number = e.rest.number; more = (is_back old new row buf true e).more; is = (is_back old new row buf true e).is }; long = λ well. e.rest.long; counts = λ bad. absurd (let no : true ≡ false = bad in cc no) }
is_end false old new row buf e = record { back = record { flight = e.flight; its = e.its; flights = e.flights; number = e.number; more = (is_back old new row buf false e).more; is = e.new_is }; long = λ well. not_so well; counts = λ bad. e.counts }

-- one of a request that fails counts as a fault of its disk, since it lies behind the record area
data_faulted : (core : Core) (r : Request) (t : Target) (f : Flight) (old new : Counts) → IsDataTransfer core r t f → IsTarget core r.ask t → CountsFailure f old new → Rose (old.faults t.pp.disk) (new.faults t.pp.disk)
data_faulted core r t f old new its aim (inl miss) = let low = miss.0.1 in let first = its.first in let sector = aim.sector in absurd (omega (arith, low, first, sector))
data_faulted core r t f old new its aim (inr fault) = subst (λ d. Rose (old.faults d) (new.faults d)) its.disk_is fault.1.faults.here

-- requests of one number are one
one_named : (os : List Open) (k j : ℕ) (x y : Open) → IsAscending os → slice_get os k ≡ Some x → slice_get os j ≡ Some y → y.request.id ≡ x.request.id → y ≡ x
one_named os k j x y ascending there other same = by (j == k) refl
  where
    by : (b : Bool) → (j == k) ≡ b → y ≡ x
    by true is = cc (sym other ∙ ap (slice_get os) (eqb-true j k is) ∙ there)
    by false is = let left = get_removed os k j y (eqb-false j k is) other in absurd (all_at (λ (z : Open). z.request.id ≡ x.request.id → ⊥) (remove os k) left.0 y (apart os k x there ascending) left.1 same)

-- ---- the end

module _ (at id target : ℕ) (ok : Bool) (old new : State) (sound : IsSound old) (on : old.core.power ≡ power.On) (event : EndsData old new at id target ok) where
  abbrev core : Core
  core = old.core

  pub going : IsGoing old.core
  going = (sound.on on).going

  abbrev pub place : ℕ
  place = event.learns.place

  abbrev pub o : Open
  o = event.learns.its.request

  pub there : slice_get old.core.requests place ≡ Some o
  there = event.learns.its.there

  abbrev pub aim : Target
  aim = event.learns.its.aim

  pub aim_is : slice_get o.request.targets.items target ≡ Some aim
  aim_is = event.learns.its.aim_is

  pub own : event.row.owner ≡ owner.Data o.request.id target
  own = event.own ∙ ap (λ i. owner.Data i target) (sym event.learns.own)

  pub end_so : IsEnd ok old.device new.device event.row event.buf
  end_so = is_end ok old.device new.device event.row event.buf event.returns.ends

  abbrev pub flight : Flight
  flight = end_so.back.flight

  pub out : IsOut old.core old.device.flights new.device.flights at event.row flight
  out = taken_out old.core old.core.flying old.device.flights new.device.flights at event.row flight (sound.on on).rows going.tickets event.returns.there end_so.back.flights end_so.back.its

  pub long : ok ≡ true → length event.buf.sectors ≡ 256
  long well = end_so.long well ∙ out.own.long

  abbrev pub x : Open
  x = learnt old.core going place target o there aim aim_is at event.row event.returns.there own ok event.buf long

  shape_so : IsShaped old.core o
  shape_so = (request old.core going place target o there aim aim_is at event.row event.returns.there own ok event.buf long).shape

  -- ---- its disk has failed where it ended badly

  transfer : IsDataOf old.core o.request.id target flight
  transfer = subst (λ who. IsTransferOf old.core who flight) own out.own.own

  same_request : transfer.request ≡ o
  same_request = one_named old.core.requests place transfer.place o transfer.request sound.told.table.ascending there transfer.there transfer.own

  same_aim : transfer.aim ≡ aim
  same_aim = let e : Some transfer.aim ≡ Some aim = sym transfer.aim_is ∙ ap (λ (y : Open). slice_get y.request.targets.items target) same_request ∙ aim_is in cc e

  moves : IsDataTransfer old.core o.request aim flight
  moves = subst (λ (t : Target). IsDataTransfer old.core o.request t flight) same_aim (subst (λ (y : Open). IsDataTransfer old.core y.request transfer.aim flight) same_request transfer.moves)

  pub rose : ok ≡ false → Rose (old.device.counts.faults aim.pp.disk) (new.device.counts.faults aim.pp.disk)
  rose bad = data_faulted old.core o.request aim flight old.device.counts new.device.counts moves (all_at (IsTarget old.core o.request.ask) o.request.targets.items target aim shape_so.targets aim_is) (end_so.counts bad)

  -- ---- what it entails

  abbrev pub mid : Open → Core
  mid y = record old.core { flying = remove old.core.flying at; pool = with_back old.core.pool (given_back o ok event.buf); requests = slice_set old.core.requests place y }

  pub entails : Entails (mid x) x ok aim.pp new.core
  entails = subst (λ (y : Open). Entails (mid y) y ok aim.pp new.core) (learnt_is old.core going place target o there aim aim_is at event.row event.returns.there own ok event.buf long) event.learns.entails

  flights_are : (k : Core) → new.core ≡ k → new ≡ state (record old.device { media = new.device.media; counts = new.device.counts; flights = remove old.device.flights at }) k
  flights_are k core_is = ap (λ (d : Device). state d new.core) end_so.back.is ∙ ap (λ (c : Core). state (record old.device { media = new.device.media; flights = new.device.flights; counts = new.device.counts }) c) core_is
      ∙ ap (λ (fs : List Flight). state (record old.device { media = new.device.media; flights = fs; counts = new.device.counts }) k) out.left_is

  -- ---- the numbers

  abbrev pub overs : Bool
  overs = is_write o.request.ask && are_over x.request.targets.items

  was_later : is_write o.request.ask ≡ true → count_if (marks_later o) ≡ 1
  was_later write = ap count_if (ap (λ b. b && is_write o.request.ask && not (is_begun o.request.targets.items && are_over o.request.targets.items)) (waits old.core going place target o there aim aim_is at event.row event.returns.there own ok event.buf long)
      ∙ ap (λ b. b && not (is_begun o.request.targets.items && are_over o.request.targets.items)) write
      ∙ ap (λ b. not (is_begun o.request.targets.items && b)) (not_over old.core going place target o there aim aim_is at event.row event.returns.there own ok event.buf long) ∙ ap not (and_false (is_begun o.request.targets.items)))

  few : (b : Bool) → count_if b ≤ 1
  few true = omega arith
  few false = omega arith

  pub no_more : count_if (marks_later x) ≤ count_if (marks_later o)
  no_more = of (is_write o.request.ask) refl
    where
      none : (a b : Bool) → b ≡ false → count_if (a && b && not (is_begun x.request.targets.items && are_over x.request.targets.items)) ≡ 0
      none true false e = refl
      none false b e = refl
      none true true e = not_so (sym e)

      of : (b : Bool) → is_write o.request.ask ≡ b → count_if (marks_later x) ≤ count_if (marks_later o)
      of true write = let one = was_later write in let most = few (marks_later x) in omega (arith, one, most)
      of false read = let zero_so = none (is_waiting o) (is_write o.request.ask) read in omega (arith, zero_so)

  pub over_pays : overs ≡ true → count_if (marks_later x) + 1 ≤ count_if (marks_later o)
  over_pays over =
      let parts = both (is_write o.request.ask) (are_over x.request.targets.items) over in
      let one = was_later parts.0 in
      let zero_so : count_if (marks_later x) ≡ 0 = ap count_if (ap (λ b. is_waiting o && is_write o.request.ask && not (b && are_over x.request.targets.items)) (begun_now old.core going place target o there aim aim_is at event.row event.returns.there own ok event.buf long)
      ∙ ap (λ b. is_waiting o && is_write o.request.ask && not b) parts.1 ∙ and_false (is_waiting o && is_write o.request.ask)) in
      omega (arith, one, zero_so)

  -- ---- the copy stays, or fails with it

  abbrev due_stays : Pp → Bool
  due_stays q = is_among (due_of old.core x.request) q || false

  stays_so : option_map_or (hits_copy old.core x ok aim.pp) old.core.copy false ≡ false → WantsStale due_stays old.core.status new.core.status → new.core ≡ record (mid x) { status = new.core.status } → IsSound new
  stays_so unhit marks core_is =
      let stale = staled due_stays old.core.status new.core.status going.status marks in
      subst IsSound (sym (flights_are (record (mid x) { status = record old.core.status { wanted = new.core.status.wanted; writes = new.core.status.writes } }) (core_is ∙ ap (λ (u : Stored). record (mid x) { status = u }) stale.is)))
      (keeps old sound on new.device.media new.device.counts end_so.back.more place target o there aim aim_is at event.row event.returns.there own ok event.buf long flight out.there end_so.back.number rose
      old.core.queue old.core.copy old.core.pool due_stays new.core.status.wanted new.core.status.writes stale.like stale.started (subst (λ (u : Stored). IsSoundStatus (seen u)) stale.is stale.sound)
      entailed (paid overs refl)
      (if_on (λ (c : OpenCopy). IsCausedAmong (state (record old.device { media = new.device.media; counts = new.device.counts }) old.core) (copies_in old.core.descriptor c.lv c.lp) c) (λ (c : OpenCopy). IsCausedAmong now_so (copies_in old.core.descriptor c.lv c.lp) c)
      (λ c. same_cause old sound on new.device.media new.device.counts end_so.back.more place target o there aim aim_is at event.row event.returns.there own ok event.buf long flight out.there end_so.back.number rose
      old.core.queue old.core.copy old.core.pool due_stays new.core.status.wanted new.core.status.writes stale.like stale.started (subst (λ (u : Stored). IsSoundStatus (seen u)) stale.is stale.sound) entailed (copies_in old.core.descriptor c.lv c.lp) c) old.core.copy (counts_keep old new.device.media new.device.counts sound end_so.back.more).copy))
    where
      entailed : IsEntailed old.core x ok aim.pp old.core.queue old.core.copy old.core.pool due_stays
      entailed = stays old.core going place target o there aim aim_is at event.row event.returns.there own ok event.buf long unhit (sound.on on).chosen

      now_so : State
      now_so = let stale = staled due_stays old.core.status new.core.status going.status marks in now old sound on new.device.media new.device.counts end_so.back.more place target o there aim aim_is at event.row event.returns.there own ok event.buf long flight out.there end_so.back.number rose
          old.core.queue old.core.copy old.core.pool due_stays new.core.status.wanted new.core.status.writes stale.like stale.started (subst (λ (u : Stored). IsSoundStatus (seen u)) stale.is stale.sound) entailed

      paid : (b : Bool) → overs ≡ b → if_so (not (same_status new.core.status.wanted (unwrap_or old.core.status.in_flight old.core.status.committed))) 1 + count_if (marks_later x) + option_map_or (copy_updates old.core) old.core.copy 0
          ≤ if_so (not (same_status old.core.status.wanted (unwrap_or old.core.status.in_flight old.core.status.committed))) 1 + count_if (marks_later o) + option_map_or (copy_updates old.core) old.core.copy 0
      paid true over = let pays = over_pays over in let most = one_if (not (same_status new.core.status.wanted (unwrap_or old.core.status.in_flight old.core.status.committed))) in omega (arith, pays, most)
      paid false ends_later =
          let same : new.core.status ≡ old.core.status = marks.same (λ p e. not_so (sym ends_later ∙ (due_one old.core x.request p (sym (or_false (is_among (due_of old.core x.request) p)) ∙ e)).over)) in
          let wants : if_so (not (same_status new.core.status.wanted (unwrap_or old.core.status.in_flight old.core.status.committed))) 1 ≡ if_so (not (same_status old.core.status.wanted (unwrap_or old.core.status.in_flight old.core.status.committed))) 1
          = ap (λ (u : Stored). if_so (not (same_status u.wanted (unwrap_or old.core.status.in_flight old.core.status.committed))) 1) same in
          let less = no_more in
          omega (arith, wants, less)

  fails_so : (c : OpenCopy) → old.core.copy ≡ Some c → hits_copy old.core x ok aim.pp c ≡ true
      → WantsStale (λ q. is_among (due_of old.core x.request) q || option_map_or (λ (k : OpenCopy). is_whole old.core k && is_pp q k.pp && (not k.moves || is_held_stale old.core k.pp)) old.core.copy false) old.core.status new.core.status
      → new.core ≡ record (after_copy_end (mid x) c ending.SyncFailed) { status = new.core.status } → IsSound new
  fails_so c is hit marks core_is =
      subst IsSound (sym (flights_are made (core_is ∙ ap (λ (u : Stored). record (after_copy_end (mid x) c ending.SyncFailed) { status = u }) stale.is ∙ ap (λ (p : List Bool). record made { pool = p }) (back_twice old.core.pool (given_back o ok event.buf) (hand_of c.step)))))
      (keeps old sound on new.device.media new.device.counts end_so.back.more place target o there aim aim_is at event.row event.returns.there own ok event.buf long flight out.there end_so.back.number rose
      queue_so (Some (with_copy_end c ending.SyncFailed)) (with_back old.core.pool (hand_of c.step)) due_so new.core.status.wanted new.core.status.writes stale.like stale.started (subst (λ (u : Stored). IsSoundStatus (seen u)) stale.is stale.sound) entailed paid
      (cause old sound on new.device.media new.device.counts end_so.back.more place target o there aim aim_is at event.row event.returns.there own ok event.buf long flight out.there end_so.back.number rose
      queue_so (Some (with_copy_end c ending.SyncFailed)) (with_back old.core.pool (hand_of c.step)) due_so new.core.status.wanted new.core.status.writes stale.like stale.started (subst (λ (u : Stored). IsSoundStatus (seen u)) stale.is stale.sound) entailed c is hit))
    where
      due_so : Pp → Bool
      due_so q = is_among (due_of old.core x.request) q || option_map_or (λ (k : OpenCopy). is_whole old.core k && is_pp q k.pp && (not k.moves || is_held_stale old.core k.pp)) old.core.copy false

      stale : IsStaled due_so old.core.status new.core.status
      stale = staled due_so old.core.status new.core.status going.status marks

      queue_so : Waiting
      queue_so = if is_out c.step then old.core.queue else record old.core.queue { rows = without c.place old.core.queue.rows }

      made : Core
      made = record old.core {
        flying = remove old.core.flying at;
        requests = slice_set old.core.requests place x;
        copy = Some (with_copy_end c ending.SyncFailed);
        queue = queue_so;
        pool = with_back (with_back old.core.pool (hand_of c.step)) (given_back o ok event.buf);
        status = record old.core.status { wanted = new.core.status.wanted; writes = new.core.status.writes };
      }

      runs : is_running c ≡ true
      runs = running old.core going place target o there aim aim_is at event.row event.returns.there own ok event.buf long c is hit

      entailed : IsEntailed old.core x ok aim.pp queue_so (Some (with_copy_end c ending.SyncFailed)) (with_back old.core.pool (hand_of c.step)) due_so
      entailed = fails old.core going place target o there aim aim_is at event.row event.returns.there own ok event.buf long c is hit (subst (λ m. IfSome m (λ (k : OpenCopy). AllByRecursion (IsChosenSince old.core k) old.core.requests)) is (sound.on on).chosen)

      some_update : (w m : Bool) → 1 ≤ (if w then 1 else 2) + if_so m 1
      some_update true m = omega arith
      some_update false m = omega arith

      paid : if_so (not (same_status new.core.status.wanted (unwrap_or old.core.status.in_flight old.core.status.committed))) 1 + count_if (marks_later x) + 0
          ≤ if_so (not (same_status old.core.status.wanted (unwrap_or old.core.status.in_flight old.core.status.committed))) 1 + count_if (marks_later o) + option_map_or (copy_updates old.core) old.core.copy 0
      paid =
          let less = no_more in
          let most = one_if (not (same_status new.core.status.wanted (unwrap_or old.core.status.in_flight old.core.status.committed))) in
          let was : option_map_or (copy_updates old.core) old.core.copy 0 ≡ (if is_whole old.core c then 1 else 2) + if_so c.moves 1 = ap (λ m. option_map_or (copy_updates old.core) m 0) is ∙ ap (λ b. if not b then 0 else (if is_whole old.core c then 1 else 2) + if_so c.moves 1) runs in
          let some = some_update (is_whole old.core c) c.moves in
          omega (arith, less, most, was, some)

  by : (b : Bool) → option_map_or (hits_copy old.core x ok aim.pp) old.core.copy false ≡ b
      → WantsStale (λ q. is_among (due_of old.core x.request) q || marked_by_end (mid x) (ends_if b ending.SyncFailed) q) old.core.status new.core.status
      → new.core ≡ record (with_end (mid x) (ends_if b ending.SyncFailed)) { status = new.core.status } → IsSound new
  by false unhit marks core_is = stays_so unhit marks core_is
  by true hit marks core_is = of old.core.copy refl hit
    where
      of : (m : Option OpenCopy) → old.core.copy ≡ m → option_map_or (hits_copy old.core x ok aim.pp) m false ≡ true → IsSound new
      of None is e = not_so e
      of (Some c) is e = fails_so c is e marks (core_is ∙ ap (λ m. record (option_map_or (λ (k : OpenCopy). after_copy_end (mid x) k ending.SyncFailed) m (mid x)) { status = new.core.status }) is)

  pub by_hit : IsSound new
  by_hit = by (option_map_or (hits_copy core x ok aim.pp) core.copy false) refl entails.marks entails.is

pub data_end_keeps : DataEndKeeps
data_end_keeps at id target ok old new sound on event = by_hit at id target ok old new sound on event
