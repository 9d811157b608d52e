-- What each event moves.
use Rattle.std.proofs.Common.{◌≡◌, ◌&&◌, ◌||◌, not, ℕ, Bool, true, false, nat_lt, List, Option, Some, None, slice_get, slice_set, refl, sym, subst, ◌∙◌, ap}
use Rattle.std.specs.Prelude.{if◌then◌else◌, position}
use Rattle.std.specs.List.{list_any}
use Rattle.std.specs.Option.{option_map_or}
use Rattle.std.proofs.lemmas.Bool.{and_left, and_parts, and_right}
use Rattle.lvm_num.specs.Buffer.{Buffer}
use Rattle.lvm_vol.specs.declared.entry.Outcome.{Outcome}
use Rattle.lvm_hold.specs.declared.queue.Row.{Row}
use Rattle.lvm_hold.specs.Conflicts.{conflicts, is_write as is_write_of}
use Rattle.lvm_hold.specs.Waiting.{without}
use Rattle.lvm_mwc.specs.Cache.{Cached, after_pin, after_unpin}
use Rattle.lvm_mwc.specs.Entries.{are_all_pinned, with_pin as with_entry}
use Rattle.lvm_status.specs.Update.{Stored, Updates, is_held as has_votes, is_owed, no_disks, seen}
use Rattle.lvm_status.specs.Calls.{closed}
use Rattle.lvm_path.specs.declared.ask.Ask.{Ask}
use Rattle.lvm_path.specs.declared.request.Request.{Request}
use Rattle.lvm_path.specs.Asks.{is_write, lv_of}
use Rattle.lvm_path.specs.Next.{with_pin}
use Rattle.lvm_path.specs.Targets.{is_begun}
use Rattle.lvm_session.specs.declared.bringing.CopyEnd.TheVariants as ending
use Rattle.lvm_session.specs.declared.bringing.OpenCopy.{OpenCopy}
use Rattle.lvm_session.specs.declared.flown.Owner.TheVariants as owner
use Rattle.lvm_session.specs.declared.open.Open.{Open}
use Rattle.lvm_session.specs.State.{Core, State, state}
use Rattle.lvm_session.specs.Bringing.{ends_if, with_end}
use Rattle.lvm_session.specs.Dark.{IsAscending}
use Rattle.lvm_session.specs.Enabled.{can_pin, is_pin}
use Rattle.lvm_session.specs.Ends.{DataLearns, after_data, learned}
use Rattle.lvm_session.specs.Events.{Admits, Lands, Pins, StartsData, admitted_as, after_admission, after_landing, begun_as, landed_as, makes_dirty, with_flight, with_open, without_pin}
use Rattle.lvm_session.specs.Judging.{facts_of, group_of, held_of, is_failing, is_held_back, is_waiting, mode_of, next_for, place_of, policy_of}
use Rattle.lvm_session.specs.Marks.{WantsDirtyIf, hits_copy}
use Rattle.lvm_session.specs.Sound.{IsGoing, rows_of, waiting_rows}
use Rattle.lvm_due.specs.Due.{any_fails, is_freed, none, overlap, waits_entry, waits_entry_if, HoldsPin, WantsNothing, NoneFailsAt, NoneFailsFor, ChangesOne, ReadsSame}
use Rattle.lvm_due.specs.Making.{might_make_landing}
use Rattle.lvm_due.proofs.DueLemmas.Frames.{get_set}
use Rattle.lvm_due.proofs.JudgingLemmas.{fails_read, failing_read}
use Rattle.lvm_due.proofs.NotNextLemmas.{pins_past, starts_past}
use Rattle.lvm_due.proofs.WritesLemmas.{start_fails, start_waits}
use Rattle.lvm_due.proofs.Queues.{ascends_set, has_number, one_numbered, position_is, position_set, row_of, unqueued}

not_both : {X : Type 0} {b : Bool} → b ≡ true → b ≡ false → X
not_both is not_so = absurd (let e : true ≡ false = sym is ∙ not_so in cc e)

-- ---- what stays

unpin_notes : (b : Bool) (cache : Cached) (lv group : ℕ) → (if b then after_unpin cache lv group else cache).notes ≡ cache.notes
unpin_notes true cache lv group = refl
unpin_notes false cache lv group = refl

pin_notes : (b : Bool) (cache : Cached) (lv group : ℕ) → (if b then cache else record cache { entries = with_entry cache.entries lv group }).notes ≡ cache.notes
pin_notes true cache lv group = refl
pin_notes false cache lv group = refl

-- a request none of whose targets counts as failed isn't failing
calm_one : (core : Core) (o : Open) → any_fails core o ≡ false → is_failing core o ≡ false
calm_one core o fine = and_right (is_waiting o && is_write o.request.ask && is_begun o.request.targets.items) (any_fails core o) fine

closed_commits : (u : Updates) → (closed u).committed ≡ u.committed
closed_commits u = by (has_votes u && not (is_owed u))
  where
    by : (b : Bool) → (if b then record u { in_flight = None; unstarted = no_disks; started = no_disks; written = no_disks; failed = no_disks } else u).committed ≡ u.committed
    by true = refl
    by false = refl

dirty_commits : (b : Bool) (lv : ℕ) (old new : Stored) → WantsDirtyIf b lv old new → new.committed ≡ old.committed
dirty_commits false lv old new same = ap (λ (s : Stored). s.committed) same
dirty_commits true lv old new wants = ap (λ (u : Updates). u.committed) wants.rest ∙ closed_commits (record (seen old) { wanted = new.wanted })

-- where the session was calm and is, what is read of it stays with the group and what is committed
calm_reads : (old new : Core) → new.descriptor ≡ old.descriptor → new.status.committed ≡ old.status.committed → WantsNothing old → WantsNothing new → ReadsSame old new
calm_reads old new descriptor committed was is = record {
  descriptor = descriptor;
  committed = committed;
  wanted = is.same ∙ committed ∙ sym was.same;
  in_flight = is.flight ∙ sym was.flight;
  copy = is.copy ∙ sym was.copy;
}

-- where no pin was given up all can pin that could
unheld_pins : (cache : Cached) (r : Request) (o : Open) (pinned : Bool) → r.pinned ≡ pinned → waits_entry o ≡ true → waits_entry_if pinned o ≡ false → can_pin (without_pin cache r) o.request.ask ≡ can_pin cache o.request.ask
unheld_pins cache r o true held waits kept = not_both waits kept
unheld_pins cache r o false held waits kept = ap (λ (b : Bool). can_pin (if b then after_unpin cache (lv_of r.ask) (group_of r.ask) else cache) o.request.ask) held

-- ---- Land

module _ (old : State) (new : Core) (place : ℕ) (how : Outcome) (going : IsGoing old.core) (lands : Lands old (state old.device new) place how) (quiet : NoneFailsAt new place) (pinned : Bool) (holds : HoldsPin old.core place pinned) where
  abbrev landed_was : Open
  landed_was = lands.request

  landed_is : new ≡ after_landing old.core place lands.request how
  landed_is = ap (λ (s : State). s.core) lands.is

  landed_reads : ReadsSame old.core new
  landed_reads = record {
    descriptor = ap (λ (c : Core). c.descriptor) landed_is;
    committed = ap (λ (c : Core). c.status.committed) landed_is;
    wanted = ap (λ (c : Core). c.status.wanted) landed_is;
    in_flight = ap (λ (c : Core). c.status.in_flight) landed_is;
    copy = ap (λ (c : Core). c.copy) landed_is;
  }

  landed_requests : new.requests ≡ slice_set old.core.requests place (landed_as how lands.request)
  landed_requests = ap (λ (c : Core). c.requests) landed_is

  landed_there : slice_get new.requests place ≡ Some (landed_as how lands.request)
  landed_there = ap (λ (os : List Open). slice_get os place) landed_requests ∙ get_set old.core.requests place lands.request (landed_as how lands.request) lands.there

  -- while no copy is open the queue has the rows of the requests that wait
  landed_rows : old.core.queue.rows ≡ waiting_rows old.core.requests
  landed_rows = going.queue ∙ ap (λ (copy : Option OpenCopy). rows_of (record old.core { copy = copy })) (sym landed_reads.copy ∙ quiet.calm.copy)

  landed_queue : (r : Request) → conflicts (held_of lands.request.request.ask) (held_of r.ask) ≡ false → is_held_back new r ≡ is_held_back old.core r
  landed_queue r apart =
      ap (λ (c : Core). is_held_back c r) landed_is
      ∙ ap (λ (rows : List Row). list_any test (without (place_of lands.request.request.id) rows)) landed_rows
      ∙ unqueued test lands.request.request.id old.core.requests fails
      ∙ sym (ap (list_any test) landed_rows)
    where
      test : Row → Bool
      test = λ (row : Row). nat_lt row.id (place_of r.id) && conflicts row.ask (held_of r.ask)

      fails : (k : ℕ) (o : Open) → slice_get old.core.requests k ≡ Some o → o.request.id ≡ lands.request.request.id → test (row_of o) ≡ false
      fails k o there is =
          let its = one_numbered old.core.requests k place o lands.request going.told.table.ascending there lands.there is in
          and_right (nat_lt (place_of o.request.id) (place_of r.id)) (conflicts (held_of o.request.ask) (held_of r.ask)) (ap (λ (x : Open). conflicts (held_of x.request.ask) (held_of r.ask)) its ∙ apart)

  landed_moves : ChangesOne (is_freed lands.request.request.ask) (waits_entry_if pinned) old.core new place
  landed_moves = record {
    reads = landed_reads;
    notes = ap (λ (c : Core). c.cache.notes) landed_is ∙ unpin_notes lands.request.request.pinned old.core.cache (lv_of lands.request.request.ask) (group_of lands.request.request.ask);
    was = lands.request;
    there = lands.there;
    is = landed_as how lands.request;
    requests = landed_requests;
    id = refl;
    ask = refl;
    goes = λ c is. absurd (let e : None ≡ Some c = sym (sym landed_reads.copy ∙ quiet.calm.copy) ∙ is in cc e);
    fails = sym (calm_one old.core lands.request (sym (fails_read old.core new landed_reads lands.request) ∙ quiet.kept (landed_as how lands.request) landed_there));
    waits = λ k o there held kept. landed_queue o.request (and_left (overlap lands.request.request.ask o.request.ask) (is_write_of (held_of lands.request.request.ask) || is_write_of (held_of o.request.ask))
        (sym (ap (λ (b : Bool). b && overlap lands.request.request.ask o.request.ask) held) ∙ kept));
    pins = λ o waits kept. ap (λ (c : Core). can_pin c.cache o.request.ask) landed_is ∙ unheld_pins old.core.cache lands.request.request o pinned (holds lands.request lands.there) waits kept;
  }

  -- by what stands at the place now
  pub landing_moves : (o : Open) → slice_get new.requests place ≡ Some o → ChangesOne (is_freed o.request.ask) (waits_entry_if pinned) old.core new place
  landing_moves o there =
      let its : o ≡ landed_as how lands.request = cc (there, landed_there) in
      subst (λ (ask : Ask). ChangesOne (is_freed ask) (waits_entry_if pinned) old.core new place) (sym (ap (λ (x : Open). x.request.ask) its)) landed_moves

-- it lands once
pub landed_might_not : (old : State) (new : Core) (place : ℕ) (how : Outcome) → Lands old (state old.device new) place how → (o : Open) → slice_get new.requests place ≡ Some o → might_make_landing o.request ≡ false
landed_might_not old new place how lands o there =
    let requests : new.requests ≡ slice_set old.core.requests place (landed_as how lands.request) = ap (λ (s : State). s.core.requests) lands.is in
    let its : landed_as how lands.request ≡ o = cc (sym (ap (λ (os : List Open). slice_get os place) requests ∙ get_set old.core.requests place lands.request (landed_as how lands.request) lands.there) ∙ there) in
    ap (λ (x : Open). might_make_landing x.request) (sym its)

-- ---- Admit

pub admission_moves : (old : State) (new : Core) (place : ℕ) → Admits old (state old.device new) place → NoneFailsAt old.core place → NoneFailsAt new place → (pinned : Bool) → HoldsPin old.core place pinned
    → ChangesOne none (waits_entry_if pinned) old.core new place
admission_moves old new place admits was is pinned holds = record {
  reads = calm_reads old.core new (ap (λ (c : Core). c.descriptor) core_is) (dirty_commits (makes_dirty old.core admits.request.request.ask admits.targets) (lv_of admits.request.request.ask) old.core.status new.status admits.dirty) was.calm is.calm;
  notes = ap (λ (c : Core). c.cache.notes) core_is ∙ unpin_notes admits.request.request.pinned old.core.cache (lv_of admits.request.request.ask) (group_of admits.request.request.ask);
  was = admits.request;
  there = admits.there;
  is = one;
  requests = requests;
  id = refl;
  ask = refl;
  goes = λ c its. absurd (let e : None ≡ Some c = sym was.calm.copy ∙ its in cc e);
  fails = calm_one new one (is.kept one (ap (λ (os : List Open). slice_get os place) requests ∙ get_set old.core.requests place admits.request one admits.there)) ∙ sym (calm_one old.core admits.request (was.kept admits.request admits.there));
  waits = λ k o there held kept. ap (λ (c : Core). is_held_back c o.request) core_is;
  pins = λ o waits kept. ap (λ (c : Core). can_pin c.cache o.request.ask) core_is ∙ unheld_pins old.core.cache admits.request.request o pinned (holds admits.request admits.there) waits kept;
}
  where
    after : Core
    after = record (after_admission old.core place admits.request admits.targets admits.order) { status = new.status }

    core_is : new ≡ after
    core_is = ap (λ (s : State). s.core) admits.is

    one : Open
    one = admitted_as (policy_of old.core admits.request.request.ask) (mode_of old.core admits.request.request.ask) admits.targets admits.request

    requests : new.requests ≡ slice_set old.core.requests place one
    requests = ap (λ (c : Core). c.requests) core_is

-- ---- Pin

pub pin_moves : (old : State) (new : Core) (place : ℕ) → Pins old (state old.device new) place → ChangesOne none waits_entry old.core new place
pin_moves old new place pins = record {
  reads = reads;
  notes = ap (λ (c : Core). c.cache.notes) core_is ∙ pin_notes (are_all_pinned old.core.cache.entries (lv_of r.ask) (group_of r.ask)) old.core.cache (lv_of r.ask) (group_of r.ask);
  was = pins.request;
  there = pins.there;
  is = one;
  requests = ap (λ (c : Core). c.requests) core_is;
  id = refl;
  ask = refl;
  goes = λ c is. ap (λ (b : Bool). is_waiting pins.request && b) (sym (pins_past (facts_of old.core r) r r.phase (and_parts (is_pin (next_for old.core pins.request)) (can_pin old.core.cache r.ask) pins.pins).0));
  fails = failing_read old.core new reads pins.request;
  waits = λ k o there held kept. ap (λ (c : Core). is_held_back c o.request) core_is;
  pins = λ o waits kept. not_both waits kept;
}
  where
    r : Request
    r = pins.request.request

    one : Open
    one = record pins.request { request = with_pin r }

    core_is : new ≡ record (with_open old.core place one) { cache = after_pin old.core.cache (lv_of r.ask) (group_of r.ask) }
    core_is = ap (λ (s : State). s.core) pins.is

    reads : ReadsSame old.core new
    reads = record {
      descriptor = ap (λ (c : Core). c.descriptor) core_is;
      committed = ap (λ (c : Core). c.status.committed) core_is;
      wanted = ap (λ (c : Core). c.status.wanted) core_is;
      in_flight = ap (λ (c : Core). c.status.in_flight) core_is;
      copy = ap (λ (c : Core). c.copy) core_is;
    }

-- ---- StartData

start_moves : (old new : State) (place target : ℕ) → StartsData old new place target → ((o : Open) → slice_get new.core.requests place ≡ Some o → any_fails new.core o ≡ false) → ChangesOne none none old.core new.core place
start_moves old new place target starts fine = record {
  reads = reads;
  notes = ap (λ (c : Core). c.cache.notes) core_is;
  was = was;
  there = starts.its.there;
  is = one;
  requests = requests;
  id = refl;
  ask = refl;
  goes = λ c is. ap (λ (b : Bool). is_waiting was && b) (sym (starts_past (facts_of old.core was.request) was.request was.request.phase target starts.its.due));
  fails = calm_one new.core one fine_now ∙ sym (by (is_write was.request.ask) refl);
  waits = λ k o there held kept. ap (λ (c : Core). is_held_back c o.request) core_is;
  pins = λ o waits kept. ap (λ (c : Core). can_pin c.cache o.request.ask) core_is;
}
  where
    was : Open
    was = starts.its.request

    one : Open
    one = begun_as target was

    core_is : new.core ≡ record (with_flight (with_open old.core place one) starts.flight (owner.Data was.request.id target)) { pool = new.core.pool }
    core_is = ap (λ (s : State). s.core) starts.is

    reads : ReadsSame old.core new.core
    reads = record {
      descriptor = ap (λ (c : Core). c.descriptor) core_is;
      committed = ap (λ (c : Core). c.status.committed) core_is;
      wanted = ap (λ (c : Core). c.status.wanted) core_is;
      in_flight = ap (λ (c : Core). c.status.in_flight) core_is;
      copy = ap (λ (c : Core). c.copy) core_is;
    }

    requests : new.core.requests ≡ slice_set old.core.requests place one
    requests = ap (λ (c : Core). c.requests) core_is

    fine_now : any_fails new.core one ≡ false
    fine_now = fine one (ap (λ (os : List Open). slice_get os place) requests ∙ get_set old.core.requests place was one starts.its.there)

    -- a read isn't failing, and of a write only a target that waited has changed
    by : (b : Bool) → is_write was.request.ask ≡ b → is_failing old.core was ≡ false
    by false reads_only =
        and_left (is_waiting was && is_write was.request.ask && is_begun was.request.targets.items) (any_fails old.core was)
        (and_left (is_waiting was && is_write was.request.ask) (is_begun was.request.targets.items) (and_right (is_waiting was) (is_write was.request.ask) reads_only))
    by true writes = calm_one old.core was (sym
        (sym fine_now ∙ fails_read old.core new.core reads one
        ∙ start_fails old.core was.request.targets.items target starts.its.aim starts.its.aim_is (start_waits (facts_of old.core was.request) was.request target starts.its.aim starts.its.aim_is writes starts.its.due)))

pub start_moves_now : (old new : State) (now : Core) (place target : ℕ) → new.core ≡ now → StartsData old new place target → ((o : Open) → slice_get now.requests place ≡ Some o → any_fails now o ≡ false) → ChangesOne none none old.core now place
start_moves_now old new now place target same starts fine =
    subst (λ (c : Core). ChangesOne none none old.core c place) same
    (start_moves old new place target starts (subst (λ (c : Core). (o : Open) → slice_get c.requests place ≡ Some o → any_fails c o ≡ false) (sym same) fine))

-- ---- the end of a transfer

module _ (old new : Core) (at id target : ℕ) (buf : Buffer) (going : IsGoing old) (learns : DataLearns old at id target true buf new) where
  abbrev ended_was : Open
  ended_was = learns.its.request

  abbrev ended_now : Open
  ended_now = learned learns.its.request target true buf

  abbrev ended_after : Core
  ended_after = after_data old at learns.place learns.its.request target true buf

  ended_commits : new.status.committed ≡ old.status.committed
  ended_commits = ap (λ (u : Updates). u.committed) learns.entails.marks.rest

  -- while no copy is open none ends
  ended_is : old.copy ≡ None → new ≡ record ended_after { status = new.status }
  ended_is no_copy = learns.entails.is ∙ ap (λ (copy : Option OpenCopy). let c : Core = record (with_end ended_after (ends_if (option_map_or (hits_copy ended_after ended_now true learns.its.aim.pp) copy false) ending.SyncFailed)) { status = new.status } in c) no_copy

  ended_requests : old.copy ≡ None → new.requests ≡ slice_set old.requests learns.place ended_now
  ended_requests no_copy = ap (λ (c : Core). c.requests) (ended_is no_copy)

  ended_moves : NoneFailsAt old learns.place → NoneFailsAt new learns.place → ChangesOne none none old new learns.place
  ended_moves was is = record {
    reads = calm_reads old new (ap (λ (c : Core). c.descriptor) (ended_is was.calm.copy)) ended_commits was.calm is.calm;
    notes = ap (λ (c : Core). c.cache.notes) (ended_is was.calm.copy);
    was = ended_was;
    there = learns.its.there;
    is = ended_now;
    requests = ended_requests was.calm.copy;
    id = refl;
    ask = refl;
    goes = λ c its. absurd (let e : None ≡ Some c = sym was.calm.copy ∙ its in cc e);
    fails = calm_one new ended_now (is.kept ended_now (ap (λ (os : List Open). slice_get os learns.place) (ended_requests was.calm.copy) ∙ get_set old.requests learns.place ended_was ended_now learns.its.there))
        ∙ sym (calm_one old ended_was (was.kept ended_was learns.its.there));
    waits = λ k o there held kept. ap (λ (c : Core). is_held_back c o.request) (ended_is was.calm.copy);
    pins = λ o waits kept. ap (λ (c : Core). can_pin c.cache o.request.ask) (ended_is was.calm.copy);
  }

  -- at the place at which the request of the number stands now
  pub end_moves : (place : ℕ) → (IsAscending new.requests → position (has_number id) new.requests ≡ Some place) → NoneFailsFor old (owner.Data id target) → NoneFailsAt new place → ChangesOne none none old new place
  end_moves place found was is = subst (ChangesOne none none old new) same (ended_moves quiet_was (subst (NoneFailsAt new) (sym same) is))
    where
      here : position (has_number id) old.requests ≡ Some learns.place
      here = position_is old.requests learns.place ended_was id going.told.table.ascending learns.its.there learns.own

      quiet_was : NoneFailsAt old learns.place
      quiet_was = was learns.place here

      there : position (has_number id) new.requests ≡ Some learns.place
      there = ap (position (has_number id)) (ended_requests quiet_was.calm.copy) ∙ position_set (has_number id) old.requests learns.place ended_was ended_now learns.its.there refl ∙ here

      order : IsAscending new.requests
      order = subst IsAscending (sym (ended_requests quiet_was.calm.copy)) (ascends_set old.requests learns.place ended_was ended_now learns.its.there refl going.told.table.ascending)

      same : learns.place ≡ place
      same = cc (there, found order)
