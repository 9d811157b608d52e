-- A request is submitted.
use Rattle.std.proofs.Common.{◌≡◌, ◌==◌, ◌≤◌, ◌<◌, ◌+◌, ◌*◌, ◌^◌, ◌&&◌, ◌||◌, ℕ, zero, suc, Bool, true, false, not, nat_lt, nat_le, if◌then◌else◌, List, [], ◌∷◌, ◌++◌, Option, Some, None, length, slice_get, refl, sym, ◌∙◌, ap, subst, arith}
use Rattle.std.specs.Prelude.{IfSome, MatchBool, MatchOption, Ok, Err, count_by, is_some, unwrap_or}
use Rattle.std.specs.List.{list_any, AllByRecursion}
use Rattle.std.specs.Option.{ForSome, option_map_or}
use Rattle.std.proofs.lemmas.List.{length_push}
use Rattle.std.proofs.lemmas.Bool.{eqb-true, lt-ltb, ltb-true, ltb-false, ne_eqb}
use Rattle.std.proofs.lemmas.List.Sums.{count_by-le-length, sum_by_push}
use Rattle.lvm_num.specs.declared.place.Pp.{Pp}
use Rattle.lvm_num.specs.declared.descriptor.LvRow.{LvRow}
use Rattle.lvm_num.specs.declared.descriptor.Mode.{Mode}
use Rattle.lvm_num.specs.declared.descriptor.Mode.TheVariants as mode
use Rattle.lvm_num.specs.declared.descriptor.PvRow.{PvRow}
use Rattle.lvm_num.specs.Descriptor.{IsValid, most_members, most_volumes, volume_of}
use Rattle.lvm_num.specs.Geometry.{volume_blocks}
use Rattle.lvm_num.specs.Status.{calls_dirty}
use Rattle.lvm_num.proofs.DescriptorLemmas.Bounds.{few_members, few_volumes}
use Rattle.lvm_num.proofs.Booleans.{or_false, and_false, or_true, not_so}
use Rattle.lvm_disk.specs.Device.{Flight}
use Rattle.lvm_vol.specs.declared.entry.Vol.TheVariants.{Lv}
use Rattle.lvm_vol.specs.Facts.{Request as Asked, Begun}
use Rattle.lvm_vol.specs.Legal.{begins_in}
use Rattle.lvm_vol.specs.Log.{Log, blocks_begun, blocks_given, is_open, next_id, next_request, no_request, spare_entries, with_fact}
use Rattle.lvm_vol.specs.Order.{HasItsData}
use Rattle.lvm_vol.proofs.FactsLemmas.Order.{any-push, ordered-push}
use Rattle.lvm_hold.specs.declared.queue.Held.{Held}
use Rattle.lvm_hold.specs.declared.queue.Row.{Row}
use Rattle.lvm_hold.specs.Conflicts.{conflicts}
use Rattle.lvm_hold.specs.Waiting.{Waiting, is_blocked}
use Rattle.lvm_path.specs.declared.ask.Ask.{Ask}
use Rattle.lvm_path.specs.declared.request.Phase.TheVariants as phase
use Rattle.lvm_path.specs.declared.target.Target.{Target}
use Rattle.lvm_path.specs.Asks.{at_of, count_of, is_write, lv_of}
use Rattle.lvm_path.specs.Targets.{is_failed}
use Rattle.lvm_session.specs.declared.bringing.OpenCopy.{OpenCopy}
use Rattle.lvm_session.specs.declared.flown.Owner.TheVariants as owner
use Rattle.lvm_session.specs.declared.open.Open.{Open}
use Rattle.lvm_session.specs.State.{Core, State, is_there, state}
use Rattle.lvm_session.specs.Judging.{held_of, is_missing, is_running, is_waiting, is_wanted_stale, place_of}
use Rattle.lvm_session.specs.Bringing.{has_row, is_whole, step_of, step_row}
use Rattle.lvm_session.specs.Enabled.{same_status}
use Rattle.lvm_session.specs.declared.answers.AskFault.{AskFault}
use Rattle.lvm_session.specs.declared.answers.AskFault.TheVariants as fault
use Rattle.lvm_session.specs.Calls.{ask_fault, fault_by, fault_in, fault_on, has_history, has_numbers, new_open, submitted}
use Rattle.lvm_session.specs.Dark.{IsAscending}
use Rattle.lvm_num.specs.Modes.{is_passive}
use Rattle.lvm_num.proofs.Lists.{all_weaker, all_push, all_at}
use Rattle.lvm_session.specs.Asking.{IsAsking}
use Rattle.lvm_session.specs.Left.{clean_volumes, copy_updates, if_so, marks_later, updates_left}
use Rattle.lvm_session.specs.Owners.{AreOwned, IsDataOf, flies, target_flies}
use Rattle.lvm_session.specs.Requests.{IsOpenOne, IsRecorded, mode_for}
use Rattle.lvm_session.specs.Causes.{AreCaused, AreCounted, IsAnswered, IsCaused, IsChosenSince, fails_on, is_held_stale}
use Rattle.lvm_session.specs.Sound.{IsAsked, IsCopy, IsFitting, IsGoing, IsOn, IsSound, IsTold, count_if, is_dark, is_hand, pins, waiting_rows, waits, with_row}
use Rattle.lvm_calls.proofs.LogLemmas.{below_next}
use Rattle.lvm_calls.proofs.CallsLemmas.{IsTaken, history_room, taken}
use Rattle.lvm_keeps.specs.Keeps.{SubmitKeeps}
use Rattle.lvm_keeps.proofs.CausesLemmas.{answered_still, copies_still, counted_still, origin_still}
use Rattle.lvm_keeps.proofs.SoundLemmas.Fitting.{still_fits}
use Rattle.lvm_keeps.proofs.OwnersLemmas.Rows.{all_fly, rows_on}
use Rattle.lvm_keeps.proofs.RequestsLemmas.{bring_on, if_on, moved, open_on}
use Rattle.lvm_keeps.proofs.SoundLemmas.Telling.{outcome_still}
use Rattle.lvm_keeps.proofs.LeftLemmas.Updates.{one_if, open_most}
use Rattle.lvm_keeps.proofs.SoundLemmas.Whole.{sound_when_on}
use Rattle.lvm_keeps_events.proofs.BeginLogLemmas.{answered_other, asked_new, asked_other, chunks_long, few_begin, next_is, open_new, open_other, outcome_new, place_earlier, place_new}
use Rattle.lvm_keeps_events.proofs.GeometryLemmas.{blocks_fit}

-- ---- one is put behind the others

module _ {A : Type 0} where
  -- of the others something more is known
  push_beside : (P D Q : A → Type 0) → ((x : A) → D x → P x → Q x) → (xs : List A) (y : A) → Q y → AllByRecursion D xs → AllByRecursion P xs → AllByRecursion Q (xs ++ y ∷ [])
  push_beside P D Q on [] y its others all = (its, tt)
  push_beside P D Q on (x ∷ xs) y its others all = (on x others.0 all.0, push_beside P D Q on xs y its others.1 all.1)

  get_push : (xs : List A) (y : A) (k : ℕ) (x : A) → slice_get xs k ≡ Some x → slice_get (xs ++ y ∷ []) k ≡ Some x
  get_push [] y k x there = absurd (cc there)
  get_push (z ∷ xs) y zero x there = there
  get_push (z ∷ xs) y (suc k) x there = get_push xs y k x there

  count_push : (t : A → Bool) (xs : List A) (y : A) → count_by t (xs ++ y ∷ []) ≡ count_by t xs + count_if (t y)
  count_push t xs y = sum_by_push (λ x. count_if (t x)) xs y

ascending_push : (os : List Open) (y : Open) → AllByRecursion (λ (o : Open). o.request.id < y.request.id) os → IsAscending os → IsAscending (os ++ y ∷ [])
ascending_push [] y low all = (tt, tt)
ascending_push (o ∷ os) y low all = (all_push (λ (later : Open). o.request.id < later.request.id) os y all.0 low.0, ascending_push os y low.1 all.1)

-- ---- the hold queue

rows_push_back : (os : List Open) (y : Open) → is_waiting y ≡ true → waiting_rows (os ++ y ∷ []) ≡ waiting_rows os ++ record { id = place_of y.request.id; ask = held_of y.request.ask } ∷ []
rows_push_back [] y new = ap (λ b. if b then record { id = place_of y.request.id; ask = held_of y.request.ask } ∷ [] else []) new
rows_push_back (o ∷ os) y new = by (is_waiting o) (rows_push_back os y new)
  where
    by : (b : Bool) → waiting_rows (os ++ y ∷ []) ≡ waiting_rows os ++ record { id = place_of y.request.id; ask = held_of y.request.ask } ∷ []
        → (if b then record { id = place_of o.request.id; ask = held_of o.request.ask } ∷ waiting_rows (os ++ y ∷ []) else waiting_rows (os ++ y ∷ []))
        ≡ (if b then record { id = place_of o.request.id; ask = held_of o.request.ask } ∷ waiting_rows os else waiting_rows os) ++ record { id = place_of y.request.id; ask = held_of y.request.ask } ∷ []
    by true rest = ap (λ (rows : List Row). record { id = place_of o.request.id; ask = held_of o.request.ask } ∷ rows) rest
    by false rest = rest

step_before : (step row : Row) (rows : List Row) → step.id < row.id → with_row step (rows ++ row ∷ []) ≡ with_row step rows ++ row ∷ []
step_before step row [] low = ap (λ b. if b then step ∷ row ∷ [] else row ∷ with_row step []) (lt-ltb step.id row.id low)
step_before step row (x ∷ rows) low = by (nat_lt step.id x.id) (step_before step row rows low)
  where
    by : (b : Bool) → with_row step (rows ++ row ∷ []) ≡ with_row step rows ++ row ∷ []
        → (if b then step ∷ x ∷ (rows ++ row ∷ []) else x ∷ with_row step (rows ++ row ∷ [])) ≡ (if b then step ∷ x ∷ rows else x ∷ with_row step rows) ++ row ∷ []
    by true rest = refl
    by false rest = ap (λ (rs : List Row). x ∷ rs) rest

-- who stands before it isn't held back by it
free_push : (rows : List Row) (row : Row) (at : ℕ) (ask : Held) → at ≤ row.id → is_blocked rows at ask ≡ false → is_blocked (rows ++ row ∷ []) at ask ≡ false
free_push rows row at ask late free =
    any-push (λ (x : Row). nat_lt x.id at && conflicts x.ask ask) rows row ∙ ap (λ b. b || nat_lt row.id at && conflicts row.ask ask) free ∙ ap (λ b. b && conflicts row.ask ask) (not_before (nat_lt row.id at) refl)
  where
    not_before : (b : Bool) → nat_lt row.id at ≡ b → b ≡ false
    not_before false is = refl
    not_before true is = let low = ltb-true row.id at is in absurd (omega (arith, low, late))

-- ---- what it finds that isn't refused

pub record IsRanged (core : Core) (ask : Ask) : Type 0 where
  pub row : LvRow
  pub volume : volume_of core.descriptor (lv_of ask) ≡ Some row
  pub within : at_of ask + count_of ask ≤ volume_blocks core.descriptor.mib row.lps

ranged : (core : Core) (ask : Ask) → fault_on core ask ≡ None → IsRanged core ask
ranged core ask is = by_row (volume_of core.descriptor (lv_of ask)) refl is
  where
    by_row : (m : Option LvRow) → volume_of core.descriptor (lv_of ask) ≡ m → option_map_or (λ (r : LvRow). fault_in core ask (volume_blocks core.descriptor.mib r.lps)) m (Some fault.NoVolume) ≡ None → IsRanged core ask
    by_row None at e = absurd (cc e)
    by_row (Some row) at e = record { row = row; volume = at; within = ltb-false (volume_blocks core.descriptor.mib row.lps) (at_of ask + count_of ask) (in_range (nat_lt (volume_blocks core.descriptor.mib row.lps) (at_of ask + count_of ask)) e) }
      where
        in_range : (b : Bool) → (if b then Some (fault.OutOfRange (volume_blocks core.descriptor.mib row.lps)) else if nat_le core.most (length core.requests) then Some (fault.TableFull (length core.requests)) else if has_history core ask then None else Some fault.HistoryFull) ≡ None → b ≡ false
        in_range true e = absurd (cc e)
        in_range false e = refl

numbers_left : (core : Core) (ask : Ask) → has_history core ask ≡ true → core.status.stamp.seq + 65536 < 2 ^ 32
numbers_left core ask is = ltb-true (core.status.stamp.seq + 65536) (2 ^ 32) (third (nat_le 3 (spare_entries core.history)) _ (has_numbers core) is)
  where
    third : (a b c : Bool) → a && b && c ≡ true → c ≡ true
    third true true c e = e
    third true false c e = not_so e
    third false b c e = not_so e

-- ---- all that may come to be wanted is little

three_if : (core : Core) (m : Option OpenCopy) → option_map_or (copy_updates core) m 0 ≤ 3
three_if core None = omega arith
three_if core (Some c) = by (is_running c) (is_whole core c) c.moves
  where
    by : (a b m : Bool) → (if not a then 0 else (if b then 1 else 2) + if_so m 1) ≤ 3
    by false b m = omega arith
    by true true true = omega arith
    by true true false = omega arith
    by true false true = omega arith
    by true false false = omega arith

pub few_updates : (core : Core) → IsValid core.descriptor → length core.requests ≤ 1025 → updates_left core ≤ 1668
few_updates core valid few =
    let a = one_if (not (same_status core.status.wanted (unwrap_or core.status.in_flight core.status.committed))) in
    let b = count_by-le-length marks_later core.requests in
    let c = count_by-le-length (λ (row : LvRow). is_passive row.mode && not (calls_dirty core.status.wanted row.number)) core.descriptor.lvs in
    let d = count_by-le-length (λ (row : PvRow). is_there core row.disk) core.descriptor.pvs in
    let e = three_if core core.copy in
    let f = open_most core.requests (clean_volumes core) in
    let members : length core.descriptor.pvs ≤ most_members core.descriptor.big = valid.head.members in
    let volumes : length core.descriptor.lvs ≤ most_volumes core.descriptor.big = valid.head.volumes in
    let m = few_members core.descriptor.big in
    let v = few_volumes core.descriptor.big in
    omega (arith, a, b, c, d, e, f, members, volumes, m, v, few)

module _ (s : State) (sound : IsSound s) (client : ℕ) (ask : Ask) (bytes : Option (List ℕ)) (asking : IsAsking ask bytes) (it : IsTaken s.core ask) (range : IsRanged s.core ask) where
  abbrev core : Core
  core = s.core

  abbrev next : ℕ
  next = next_id core.history

  abbrev request : Asked
  request = next_request core.history client (Lv (lv_of ask)) (at_of ask) (count_of ask) bytes

  abbrev made : Open
  made = new_open next client ask (blocks_begun core.history.facts)

  abbrev history : Log
  history = with_fact core.history (Begun request)

  abbrev requests : List Open
  requests = core.requests ++ made ∷ []

  abbrev row : Row
  row = record { id = place_of next; ask = held_of ask }

  abbrev queue : Waiting
  queue = record core.queue { rows = core.queue.rows ++ row ∷ [] }

  abbrev now : State
  now = moved s history requests queue core.copy core.pool core.flying core.cache.entries core.last

  going : IsGoing core
  going = (sound.on it.on).going

  -- ---- the history

  earlier : AllByRecursion (λ (o : Open). o.request.id < next) core.requests
  earlier = below_next core.history core.requests sound.told.ordered sound.told.requests

  other : (x : Open) → x.request.id < next → (next == x.request.id) ≡ false
  other x low = ne_eqb next x.request.id (λ e. absurd (omega (arith, e, low)))

  whole : HasItsData request
  whole = (by bytes asking.long, let e = asking.group.end in omega (arith, e))
    where
      by : (m : Option (List ℕ)) → ForSome m (λ given. length given ≡ 512 * count_of ask) → MatchBool (is_some m) (length (blocks_given (count_of ask) m) ≡ count_of ask) (blocks_given (count_of ask) m ≡ [])
      by None long = refl
      by (Some given) long = chunks_long 512 (count_of ask) given

  written : request.write ≡ true → length request.blocks ≡ request.count
  written = by bytes
    where
      by : (m : Option (List ℕ)) → is_some m ≡ true → length (blocks_given (count_of ask) m) ≡ count_of ask
      by None e = not_so e
      by (Some given) e = chunks_long 512 (count_of ask) given

  asked_on : (x : Open) → x.request.id < next → IsAsked core.history.facts x → IsAsked history.facts x
  asked_on x low a = record {
    request = a.request;
    told = asked_other core.history sound.told.ordered request refl x.request.id (other x low) ∙ a.told;
    client = a.client;
    vol = a.vol;
    at = a.at;
    count = a.count;
    write = a.write;
    length = a.length;
    place = a.place ∙ sym (place_earlier core.history sound.told.ordered request refl x.request.id (late (nat_lt next x.request.id) refl));
    outcome = a.outcome ∙ sym (outcome_still core.history.facts (Begun request) x.request.id refl);
    answered = λ ended. answered_other core.history sound.told.ordered request refl x.request.client x.request.id (other x low) ∙ a.answered ended;
  }
    where
      late : (b : Bool) → nat_lt next x.request.id ≡ b → b ≡ false
      late false is = refl
      late true is = let more = ltb-true next x.request.id is in absurd (omega (arith, more, low))

  its_asked : IsAsked history.facts made
  its_asked = record {
    request = request;
    told = asked_new core.history sound.told.ordered request refl;
    client = refl;
    vol = refl;
    at = refl;
    count = refl;
    write = asking.write;
    length = written;
    place = sym (place_new core.history sound.told.ordered request refl);
    outcome = sym (outcome_new core.history sound.told.ordered request refl);
    answered = λ e. not_so (sym e);
  }

  told : IsTold now.core
  told = let t = sound.told in record {
    ordered = ordered-push core.history.run [] core.history.facts (Begun request) t.ordered (refl, next_is core.history t.ordered request refl, whole);
    table = record {
      ascending = ascending_push core.requests made earlier t.table.ascending;
      still = push_beside Still (λ (x : Open). x.request.id < next) StillNow (λ x low is waiting. open_other core.history t.ordered request refl x.request.id (other x low) ∙ is waiting) core.requests made
          (λ waiting. open_new core.history t.ordered request refl) earlier t.table.still;
    };
    each = λ id. each id (next == id) refl;
    requests = push_beside (IsAsked core.history.facts) (λ (x : Open). x.request.id < next) (IsAsked history.facts) asked_on core.requests made its_asked earlier t.requests;
  }
    where
      Still : Open → Type 0
      Still x = is_waiting x ≡ true → is_open core.history.facts x.request.id ≡ true

      StillNow : Open → Type 0
      StillNow x = is_waiting x ≡ true → is_open history.facts x.request.id ≡ true

      pushed : (id : ℕ) → waits requests id ≡ (waits core.requests id || next == id)
      pushed id = any-push (λ (x : Open). is_waiting x && x.request.id == id) core.requests made

      each : (id : ℕ) (b : Bool) → (next == id) ≡ b → is_open history.facts id ≡ waits requests id
      each id true is = ap (is_open history.facts) (sym (eqb-true next id is)) ∙ open_new core.history sound.told.ordered request refl ∙ sym (pushed id ∙ ap (λ b. waits core.requests id || b) is ∙ or_true (waits core.requests id))
      each id false is = open_other core.history sound.told.ordered request refl id is ∙ sound.told.each id ∙ sym (pushed id ∙ ap (λ b. waits core.requests id || b) is ∙ or_false (waits core.requests id))

  fitting : IsFitting now.core
  fitting = let f = sound.fitting in still_fits core now.core f refl f.entries (λ disk. refl) (let long = length_push core.requests made in let free = it.place in omega (arith, long, free)) refl f.room

  -- ---- the requests

  still : (x : Open) → x.request.id < next → IsOpenOne core x → IsOpenOne now.core x
  still x low one = open_on core history requests queue core.copy core.pool core.flying core.cache.entries core.last x (free_push core.queue.rows row (place_of x.request.id) (held_of x.request.ask) (omega (arith, low))) (λ p e. e) (λ ask. refl) one

  few : next < 2 ^ 32
  few =
      let count = few_begin core.history.run core.history.facts in
      let spare = (history_room core ask it.history).0 in
      let room = sound.fitting.room in
      omega (arith, count, spare, room)

  recorded : (m : Mode) → IsRecorded m phase.Held made.request
  recorded mode.Active = tt
  recorded mode.Passive = (refl, refl)
  recorded mode.Off = (refl, refl, refl)

  one : IsOpenOne now.core made
  one = record {
    laid = record {
      within = record {
        row = range.row;
        volume = range.volume;
        within = range.within;
        some = asking.group.some;
        fits = let high = blocks_fit core.descriptor (lv_of ask) range.row sound.fitting.valid range.volume in let within = range.within in let some = asking.group.some in omega (arith, high, within, some);
      };
      blocks = asking.group;
      most = omega arith;
      id = few;
    };
    waits = λ e. record {
      shape = record {
        targets = tt;
        phase_is = (refl, refl);
        hand = sym (and_false (not (is_write ask)));
        room = tt;
        differ = λ i j d less high. absurd (omega (arith, less, high));
        usable = λ past. not_so past;
        one = λ read. omega arith;
      };
      ready = record {
        free = λ past. not_so past;
        recorded = recorded (mode_for core ask);
        wanted = λ past two. not_so past;
        named = λ has two. not_so has;
        dirty = λ has two. not_so has;
      };
      judged = λ write. record { uncaught = tt; due = λ status. not_so status; missed = λ status. not_so status; all = λ goes p among. not_so goes; place = λ goes p among. not_so goes };
    };
    over = λ e. not_so (sym e);
    still = λ e. refl;
  }

  owned : AreOwned now.core
  owned (owner.Data id target) = going.owned (owner.Data id target)
      ∙ ap count_if (sym (any-push (λ (x : Open). x.request.id == id && target_flies target x) core.requests made ∙ ap (λ b. flies core (owner.Data id target) || b) (and_false (next == id)) ∙ or_false (flies core (owner.Data id target))))
  owned (owner.Status disk) = going.owned (owner.Status disk)
  owned (owner.Note disk) = going.owned (owner.Note disk)
  owned owner.Copy = going.owned owner.Copy

  waiting_more : waiting_rows requests ≡ waiting_rows core.requests ++ row ∷ []
  waiting_more = rows_push_back core.requests made refl

  queue_is : queue.rows ≡ option_map_or (λ (c : OpenCopy). if has_row core c then with_row (step_row core c) (waiting_rows requests) else waiting_rows requests) core.copy (waiting_rows requests)
  queue_is = ap (λ (rows : List Row). rows ++ row ∷ []) going.queue ∙ by core.copy going.copy
    where
      of_copy : (c : OpenCopy) → IsCopy core c → (b : Bool) → (if b then with_row (step_row core c) (waiting_rows core.requests) else waiting_rows core.requests) ++ row ∷ [] ≡ (if b then with_row (step_row core c) (waiting_rows requests) else waiting_rows requests)
      of_copy c its true = sym (ap (with_row (step_row core c)) waiting_more ∙ step_before (step_row core c) row (waiting_rows core.requests) (let odd = its.place.2 in let low = its.place.1 in omega (arith, odd, low)))
      of_copy c its false = sym waiting_more

      by : (m : Option OpenCopy) → IfSome m (IsCopy core)
          → option_map_or (λ (c : OpenCopy). if has_row core c then with_row (step_row core c) (waiting_rows core.requests) else waiting_rows core.requests) m (waiting_rows core.requests) ++ row ∷ []
          ≡ option_map_or (λ (c : OpenCopy). if has_row core c then with_row (step_row core c) (waiting_rows requests) else waiting_rows requests) m (waiting_rows requests)
      by None its = sym waiting_more
      by (Some c) its = of_copy c its (has_row core c)

  next_more : next ≤ next_id history
  next_more = let more : count_by (begins_in core.history.run) history.facts ≡ count_by (begins_in core.history.run) core.history.facts + count_if (begins_in core.history.run (Begun request)) = count_push (begins_in core.history.run) core.history.facts (Begun request) in omega (arith, more)

  bring : (c : OpenCopy) → IsCopy core c → IsCopy now.core c
  bring c its = bring_on core history requests queue core.copy core.pool core.flying core.cache.entries core.last c next_more (λ free. ap not (free_push core.queue.rows row c.place (step_of core c) (let odd = its.place.2 in let low = its.place.1 in omega (arith, odd, low)) (blocked (is_blocked core.queue.rows c.place (step_of core c)) free))) its
    where
      blocked : (b : Bool) → not b ≡ true → b ≡ false
      blocked true e = not_so e
      blocked false e = refl

  hands : (n : ℕ) → count_by (λ (x : Open). is_hand n x.got) requests ≡ count_by (λ (x : Open). is_hand n x.got) core.requests
  hands n = let more = count_push (λ (x : Open). is_hand n x.got) core.requests made in omega (arith, more)

  keeps_going : IsGoing now.core
  keeps_going = record {
    fitting = fitting;
    told = told;
    status = going.status;
    owned = owned;
    tickets = going.tickets;
    queue = queue_is;
    pinned = λ lv group. let was = going.pinned lv group in let more = count_push (pins lv group) core.requests made in omega (arith, was, more);
    requests = push_beside (IsOpenOne core) (λ (x : Open). x.request.id < next) (IsOpenOne now.core) still core.requests made one earlier going.requests;
    copy = if_on (IsCopy core) (IsCopy now.core) bring core.copy going.copy;
    hands = λ n. let was = going.hands n in let same = hands n in omega (arith, was, same);
    behind = going.behind;
    reviewed = going.reviewed;
    fresh = going.fresh;
    clearings = going.clearings;
    numbers =
        let high = few_updates now.core sound.fitting.valid (let long = length_push core.requests made in let table = sound.fitting.table in let most = sound.fitting.most in omega (arith, long, table, most)) in
        let left = numbers_left core ask it.history in
        omega (arith, high, left);
  }

  -- ---- the shelf and the causes

  data_on : (id target : ℕ) (f : Flight) → flies core (owner.Data id target) ≡ true → IsDataOf core id target f → IsDataOf now.core id target f
  data_on id target f fly of = let m = of.moves in record {
    place = of.place;
    request = of.request;
    there = get_push core.requests made of.place of.request of.there;
    own = of.own;
    aim = of.aim;
    aim_is = of.aim_is;
    moves = record {
      disk_is = m.disk_is;
      first = m.first;
      count = m.count;
      write = m.write;
      carries = λ write k below. m.carries write k below
          ∙ sym (ap (λ (x : Option Asked). slice_get (unwrap_or x no_request).blocks k) (asked_other core.history sound.told.ordered request refl of.request.request.id (other of.request (all_at (λ (o : Open). o.request.id < next) core.requests of.place of.request earlier of.there))));
    };
  }

  blamed : (p : Pp) → list_any (fails_on p) requests ≡ list_any (fails_on p) core.requests
  blamed p = any-push (fails_on p) core.requests made ∙ ap (λ b. list_any (fails_on p) core.requests || b) (and_false (is_write ask)) ∙ or_false (list_any (fails_on p) core.requests)

  caused : (x : Open) → AreCaused s.device core x → AreCaused s.device now.core x
  caused x all waiting = all_weaker (IsCaused s.device core) (IsCaused s.device now.core) target_caused x.request.targets.items (all waiting)
    where
      target_caused : (t : Target) → IsCaused s.device core t → IsCaused s.device now.core t
      target_caused t why e = why (sym (ap (λ b. is_failed t.state || (t.usable && (is_missing core t.pp.disk || is_wanted_stale core t.pp || is_held_stale core t.pp || b))) (blamed t.pp)) ∙ e)

  keeps_on : IsOn now
  keeps_on = let was = sound.on it.on in record {
    going = keeps_going;
    rows = rows_on core history requests queue core.pool core.flying core.cache.entries core.last data_on core.flying s.device.flights (all_fly core going.owned) was.rows;
    caused = all_push (AreCaused s.device now.core) core.requests made (all_weaker (AreCaused s.device core) (AreCaused s.device now.core) caused core.requests was.caused) (λ waiting. tt);
    chosen = if_on (λ (c : OpenCopy). AllByRecursion (IsChosenSince core c) core.requests) (λ (c : OpenCopy). AllByRecursion (IsChosenSince now.core c) requests) (λ c all. all_push (IsChosenSince now.core c) core.requests made all (λ waiting older number p at. tt)) core.copy was.chosen;
  }

  -- ---- all of it

  pub keeps : IsSound now
  keeps = sound_when_on s now refl refl sound it.on fitting told keeps_on (λ n. let same = hands n in let was = sound.none_lost (ap is_dark it.on) n in omega (arith, same, was))
      (all_push (AreCounted now) core.requests made (all_weaker (AreCounted s) (AreCounted now) (counted_still s now refl) core.requests sound.counted) tt)
      (all_push (IsAnswered now) core.requests made (all_weaker (IsAnswered s) (IsAnswered now) (answered_still s now refl) core.requests sound.answered) tt) (copies_still s now refl core.copy sound.copy) (origin_still s now refl refl sound.origin)

pub submit_keeps : SubmitKeeps
submit_keeps s new client ask bytes answer sound awake asking gives = by (ask_fault s.core ask) refl gives
  where
    on_fault : (it : IsTaken s.core ask) → ask_fault s.core ask ≡ None → fault_on s.core ask ≡ None
    on_fault it none = sym (ap (λ p. fault_by p (fault_on s.core ask)) it.on) ∙ none

    by : (m : Option AskFault) → ask_fault s.core ask ≡ m → MatchOption m ((answer ≡ Ok (next_id s.core.history)) × (new ≡ submitted s.core client ask bytes)) (λ (why : AskFault). (answer ≡ Err why) × (new ≡ s.core)) → IsSound (state s.device new)
    by (Some why) is its = subst (λ (c : Core). IsSound (state s.device c)) (sym its.1) sound
    by None is its =
        let it = taken s.core ask awake (sym is) in
        subst (λ (c : Core). IsSound (state s.device c)) (sym its.1) (keeps s sound client ask bytes asking it (ranged s.core ask (on_fault it is)))
