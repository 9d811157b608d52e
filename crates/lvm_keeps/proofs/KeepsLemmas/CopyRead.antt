-- The read of the copy that is open is started.
use Rattle.std.proofs.Common.{◌≡◌, ◌==◌, ℕ, Bool, true, false, ◌&&◌, ◌||◌, not, if◌then◌else◌, List, [], ◌∷◌, ◌++◌, Option, Some, None, length, slice_get, slice_set, refl, sym, ◌∙◌, ap, subst, arith}
use Rattle.std.specs.Prelude.{IfSome, count_by, filter, find, nat_lt, slice_index_or}
use Rattle.std.specs.List.{AllByRecursion}
use Rattle.std.specs.Option.{option_map_or}
use Rattle.std.proofs.lemmas.Bool.{eq-eqb}
use Rattle.lvm_num.specs.declared.place.Pp.{Pp}
use Rattle.lvm_num.specs.Disks.{has}
use Rattle.lvm_num.specs.Descriptor.{is_pp}
use Rattle.lvm_num.proofs.Booleans.{not_so}
use Rattle.lvm_num.proofs.Lists.{all_weaker, length_set}
use Rattle.lvm_session.specs.passed.Disk.{Device, Flight, Range, IsNewTicket, Starts}
use Rattle.lvm_session.specs.declared.bringing.CopyEnd.{CopyEnd}
use Rattle.lvm_session.specs.declared.bringing.CopyEnd.TheVariants as ending
use Rattle.lvm_session.specs.declared.bringing.OpenCopy.{OpenCopy}
use Rattle.lvm_session.specs.declared.bringing.Step.{Step}
use Rattle.lvm_session.specs.declared.bringing.Step.TheVariants as step
use Rattle.lvm_session.specs.declared.flown.Flown.{Flown}
use Rattle.lvm_session.specs.declared.flown.Owner.TheVariants as owner
use Rattle.lvm_session.specs.declared.open.Open.{Open}
use Rattle.lvm_session.specs.declared.open.Power.TheVariants as power
use Rattle.lvm_session.specs.State.{Core, State, state}
use Rattle.lvm_session.specs.Judging.{copies_in, group_in, is_missing, is_running, is_usable}
use Rattle.lvm_session.specs.Bringing.{copy_ends, end_of, ends_if, has_row, is_cleared, is_idle, is_out, is_whole, next_source, sources_of, step_row}
use Rattle.lvm_session.specs.Enabled.{is_free_step, may_read}
use Rattle.lvm_session.specs.Dark.{hand_of_copy}
use Rattle.lvm_session.specs.Events.{IsCopyTransfer, flown}
use Rattle.lvm_session.specs.Marks.{is_among}
use Rattle.lvm_session.specs.Left.{copy_updates}
use Rattle.lvm_session.specs.Owners.{AreOwned, flies, same_owner}
use Rattle.lvm_session.specs.Requests.{IsOpenOne}
use Rattle.lvm_session.specs.Causes.{AreCaused, IsCaused, IsChosenSince, IsCausedAmong}
use Rattle.lvm_session.specs.Sound.{IsCopy, IsFitting, IsGoing, IsOn, IsSound, IsTold, count_if, has_number, is_dark, is_hand, out_with, waiting_rows, with_row}
use Rattle.lvm_keeps.specs.Keeps.{CopyReadKeeps}
use Rattle.lvm_keeps.proofs.CausesLemmas.{copy_still, origin_still}
use Rattle.lvm_keeps.proofs.SoundLemmas.Fitting.{still_fits}
use Rattle.lvm_keeps.proofs.OwnersLemmas.Launching.{flights_push, none_more, owners_push, rows_push, taken, tickets_push}
use Rattle.lvm_keeps.proofs.OwnersLemmas.Rows.{all_fly, rows_but_copy}
use Rattle.lvm_keeps.proofs.Small.{both, is_false}
use Rattle.lvm_keeps.proofs.RequestsLemmas.{changed, copy_stepped, kind_still, open_on, same_next}
use Rattle.lvm_session.proofs.MovesLemmas.{places_by}
use Rattle.lvm_keeps.proofs.SoundLemmas.Whole.{sound_still, told_still}

-- ---- its source

-- what is found among those that pass a test passes both, and is one of all
found_in : (t u : Pp → Bool) (ps : List Pp) (p : Pp) → find t (filter u ps) ≡ Some p → (t p ≡ true) × (u p ≡ true) × (is_among ps p ≡ true)
found_in t u [] p is = absurd (cc is)
found_in t u (q ∷ ps) p is = by (λ e. found_in t u ps p e) (u q) refl is
  where
    later : (t p ≡ true) × (u p ≡ true) × (is_among ps p ≡ true) → (t p ≡ true) × (u p ≡ true) × (is_among (q ∷ ps) p ≡ true)
    later its = (its.0, its.1, or_so (is_pp p q) (is_among ps p) its.2)
      where
        or_so : (a b : Bool) → b ≡ true → a || b ≡ true
        or_so true b e = refl
        or_so false b e = e

    first : (find t (filter u ps) ≡ Some p → (t p ≡ true) × (u p ≡ true) × (is_among ps p ≡ true)) → (b : Bool) → t q ≡ b → u q ≡ true → (if b then Some q else find t (filter u ps)) ≡ Some p → (t p ≡ true) × (u p ≡ true) × (is_among (q ∷ ps) p ≡ true)
    first rest true passes its e =
        let same : q ≡ p = cc e in
        (sym (ap t same) ∙ passes, sym (ap u same) ∙ its, ap (λ (r : Pp). is_pp p r || is_among ps p) same ∙ ap (λ b. b || is_among ps p) (ap (λ b. b && p.pp == p.pp) (eq-eqb p.disk p.disk refl) ∙ eq-eqb p.pp p.pp refl))
    first rest false passes its e = later (rest e)

    by : (find t (filter u ps) ≡ Some p → (t p ≡ true) × (u p ≡ true) × (is_among ps p ≡ true)) → (b : Bool) → u q ≡ b → find t (if b then q ∷ filter u ps else filter u ps) ≡ Some p → (t p ≡ true) × (u p ≡ true) × (is_among (q ∷ ps) p ≡ true)
    by rest true its e = first rest (t q) refl its e
    by rest false its e = later (rest e)

-- one that goes on reads on
goes_on : (r w m z i : Bool) (d : Option CopyEnd) → r ≡ true → w ≡ false
    → (if not r then None else if m then Some ending.SyncFailed else if w then d else if z then Some ending.NoFresh else ends_if i ending.SyncFailed) ≡ None
    → (if not r then None else if m then Some ending.SyncFailed else if w then d else if z then Some ending.NoFresh else None) ≡ None
goes_on false w m z i d runs short e = not_so runs
goes_on true true m z i d runs short e = not_so (sym short)
goes_on true false true z i d runs short e = e
goes_on true false false true i d runs short e = e
goes_on true false false false i d runs short e = refl

-- ---- where it may be started

module _ (core : Core) (c : OpenCopy) (may : may_read core c ≡ true) where
  pub parts : (is_running c && not (is_whole core c) && is_idle c.step ≡ true) × (is_free_step core c ≡ true)
  parts = both (is_running c && not (is_whole core c) && is_idle c.step) (is_free_step core c) (both (is_running c && not (is_whole core c) && is_idle c.step && is_free_step core c) _ may).0

  pub runs : (is_running c && not (is_whole core c) ≡ true) × (is_idle c.step ≡ true)
  runs = both (is_running c && not (is_whole core c)) (is_idle c.step) parts.0

  pub running : is_running c ≡ true
  running = (both (is_running c) (not (is_whole core c)) runs.0).0

  pub short : is_whole core c ≡ false
  short = is_false (is_whole core c) (both (is_running c) (not (is_whole core c)) runs.0).1

  idle : (at : Step) → is_idle at ≡ true → at ≡ step.Idle
  idle step.Idle e = refl
  idle (step.Reading p) e = not_so e
  idle (step.Read buf) e = not_so e
  idle step.Writing e = not_so e

  pub at_rest : c.step ≡ step.Idle
  at_rest = idle c.step runs.1

module _ (s : State) (sound : IsSound s) (on : s.core.power ≡ power.On) (c : OpenCopy) (is : s.core.copy ≡ Some c) (may : may_read s.core c ≡ true) (source : Pp) (source_is : next_source s.core c ≡ Some source)
    (f : Flight) (reads : IsCopyTransfer s.core c source false f) (long : length f.buf.sectors ≡ 256) (free : slice_get s.core.pool f.buf.number ≡ Some false) (fresh : IsNewTicket f.ticket s.device.flights)
    (starts : ℕ → ℕ) (wrote : Option (List Range)) where
  abbrev core : Core
  core = s.core

  abbrev reading : OpenCopy
  reading = record c { step = step.Reading source }

  abbrev row : Flown
  row = flown f.ticket f.disk owner.Copy

  abbrev pool : List Bool
  pool = slice_set core.pool f.buf.number true

  abbrev device : Device
  device = record s.device { flights = s.device.flights ++ f ∷ []; counts = record s.device.counts { starts = starts }; wrote = wrote }

  abbrev now : State
  now = state device (changed core core.history core.requests core.queue (Some reading) pool (core.flying ++ row ∷ []) core.cache.entries core.last)

  going : IsGoing core
  going = (sound.on on).going

  its : IsCopy core c
  its = subst (λ m. IfSome m (IsCopy core)) is going.copy

  -- what is open is this copy
  of_copy : {A : Type 0} (t : OpenCopy → A) (none : A) → option_map_or t core.copy none ≡ t c
  of_copy t none = ap (λ m. option_map_or t m none) is

  found : (not (has c.tried source.disk) ≡ true) × (not (is_pp source c.pp) && is_usable core source ≡ true) × (is_among (copies_in core.descriptor c.lv c.lp) source ≡ true)
  found = found_in (λ (p : Pp). not (has c.tried p.disk)) (λ (p : Pp). not (is_pp p c.pp) && is_usable core p) (copies_in core.descriptor c.lv c.lp) source source_is

  fitting : IsFitting now.core
  fitting = let was = sound.fitting in still_fits core now.core was refl was.entries (λ disk. refl) was.table (length_set core.pool f.buf.number true) was.room

  told : IsTold now.core
  told = told_still core now.core refl sound.told

  one : (o : Open) → IsOpenOne core o → IsOpenOne now.core o
  one o it = open_on core core.history core.requests core.queue (Some reading) pool (core.flying ++ row ∷ []) core.cache.entries core.last o (λ e. e)
      (λ p e. sym (of_copy (λ (k : OpenCopy). is_running k && is_pp p k.pp && nat_lt (group_in core o.request.ask) k.cursor) false) ∙ e) (λ ask. ap (places_by core ask) is) it

  bring : IsCopy now.core reading
  bring = copy_stepped core now.core c (step.Reading source) c.tried c.end refl (same_next core) its tt (λ e. (parts core c may).1) (λ e. refl)
      its.tried
      (found.2, is_false (is_pp source c.pp) (both (not (is_pp source c.pp)) (is_usable core source) found.1).0, is_false (has c.tried source.disk) found.0)
      (λ runs busy. short core c may) (kind_still core now.core c (step.Reading source) c.tried c.end refl refl refl refl c.moves its.kind)

  -- ---- whose it is

  none_out : flies core owner.Copy ≡ false
  none_out = of_copy (λ (k : OpenCopy). is_out k.step) false ∙ ap is_out (at_rest core c may)

  owned : AreOwned now.core
  owned (owner.Data id target) = none_more (owner.Data id target) row core.flying refl ∙ going.owned (owner.Data id target)
  owned (owner.Status disk) = none_more (owner.Status disk) row core.flying refl ∙ going.owned (owner.Status disk)
  owned (owner.Note disk) = none_more (owner.Note disk) row core.flying refl ∙ going.owned (owner.Note disk)
  owned owner.Copy =
      let more = owners_push owner.Copy row core.flying in
      let none : count_by (λ (g : Flown). same_owner owner.Copy g.owner) core.flying ≡ 0 = going.owned owner.Copy ∙ ap count_if none_out in
      omega (arith, more, none)

  -- ---- its place and its end

  stands : has_row now.core reading ≡ has_row core c
  stands = sym (ap (λ b. is_out c.step || b) (runs core c may).0 ∙ or_true (is_out c.step))
    where
      or_true : (a : Bool) → a || true ≡ true
      or_true true = refl
      or_true false = refl

  queue : core.queue.rows ≡ (if has_row now.core reading then with_row (step_row core c) (waiting_rows core.requests) else waiting_rows core.requests)
  queue = going.queue ∙ of_copy (λ (k : OpenCopy). if has_row core k then with_row (step_row core k) (waiting_rows core.requests) else waiting_rows core.requests) (waiting_rows core.requests)
      ∙ ap (λ b. if b then with_row (step_row core c) (waiting_rows core.requests) else waiting_rows core.requests) (sym stands)

  reviewed : copy_ends now.core ≡ None
  reviewed = goes_on (is_running c) (is_whole core c) (is_missing core c.pp.disk) (length (sources_of core c) == 0) _ (ends_if (is_cleared core c) ending.Done) (running core c may) (short core c may) (sym (of_copy (end_of core) None) ∙ going.reviewed)

  no_hand : (n : ℕ) → count_if (is_hand n (hand_of_copy core.copy)) ≡ 0
  no_hand n = ap (λ m. count_if (is_hand n (hand_of_copy m))) is ∙ ap (λ (at : Step). count_if (is_hand n (hand_of_copy (Some (record c { step = at }))))) (at_rest core c may)

  keeps_going : IsGoing now.core
  keeps_going = record {
    fitting = fitting;
    told = told;
    status = going.status;
    owned = owned;
    tickets = tickets_push core row core.flying s.device.flights (sound.on on).rows fresh going.tickets;
    queue = queue;
    pinned = going.pinned;
    requests = all_weaker (IsOpenOne core) (IsOpenOne now.core) one core.requests going.requests;
    copy = bring;
    hands = λ n. let was = going.hands n in let none = no_hand n in let more = taken core.pool f.buf.number n free in omega (arith, was, none, more);
    behind = going.behind;
    reviewed = reviewed;
    fresh = going.fresh;
    clearings = λ p held clear. sym (of_copy (λ (k : OpenCopy). is_running k && is_whole core k && is_pp p k.pp) false) ∙ going.clearings p held clear;
    numbers = let was = going.numbers in let same = of_copy (copy_updates core) 0 in omega (arith, was, same);
  }

  keeps_on : IsOn now
  keeps_on = let was = sound.on on in record {
    going = keeps_going;
    rows = rows_push now.core row f (record { ticket = refl; long = long; disk = refl; own = (reading, refl, record { disk_is = reads.disk_is; first = reads.first; count = reads.count; write_is = reads.write_is }) }) core.flying s.device.flights
        (rows_but_copy core now.core refl (λ who. flies core who ≡ true) (λ fly. not_so (sym none_out ∙ fly)) core.flying s.device.flights (all_fly core going.owned) was.rows);
    caused = all_weaker (AreCaused s.device core) (AreCaused device now.core) (λ x all waiting. all_weaker (IsCaused s.device core) (IsCaused device now.core) (λ t why. why) x.request.targets.items (all waiting)) core.requests was.caused;
    chosen = all_weaker (IsChosenSince core c) (IsChosenSince now.core reading) (λ x all. all) core.requests (subst (λ m. IfSome m (λ (k : OpenCopy). AllByRecursion (IsChosenSince core k) core.requests)) is was.chosen);
  }

  -- ---- all of it

  out : (n : ℕ) → out_with device now.core n ≡ count_if (slice_index_or pool n false)
  out n =
      let was = sound.none_lost (ap is_dark on) n in
      let none = no_hand n in
      let more = taken core.pool f.buf.number n free in
      let one_more = flights_push (λ (g : Flight). has_number n g.buf) f s.device.flights in
      omega (arith, was, none, more, one_more)

  copy_caused : IsCausedAmong now (copies_in core.descriptor c.lv c.lp) reading
  copy_caused = copy_still s now refl (copies_in core.descriptor c.lv c.lp) c (step.Reading source) (subst (λ m. IfSome m (λ (k : OpenCopy). IsCausedAmong s (copies_in core.descriptor k.lv k.lp) k)) is sound.copy)

  pub keeps : IsSound now
  keeps = sound_still s now refl refl sound on refl fitting told keeps_on out copy_caused (origin_still s now refl refl sound.origin)

pub copy_read_keeps : CopyReadKeeps
copy_read_keeps old new sound on event =
    subst IsSound (sym (event.is ∙ ap (λ (d : Device). state d (record made { pool = new.core.pool })) started.new_is ∙ ap (λ (p : List Bool). state launched (record made { pool = p })) event.launches.taken.new_is))
    (keeps old sound on event.copy event.is_open event.may event.source event.source_is event.flight event.reads event.launches.long event.launches.taken.free started.fresh new.device.counts.starts new.device.wrote)
  where
    started : Starts old.device new.device event.flight
    started = event.launches.starts

    made : Core
    made = record old.core { flying = old.core.flying ++ flown event.flight.ticket event.flight.disk owner.Copy ∷ []; copy = Some (record event.copy { step = step.Reading event.source }) }

    launched : Device
    launched = record old.device { flights = old.device.flights ++ event.flight ∷ []; counts = record old.device.counts { starts = new.device.counts.starts }; wrote = new.device.wrote }
