-- A request lands.
use Rattle.std.proofs.Common.{◌≡◌, ◌==◌, ◌≤◌, ◌+◌, ◌&&◌, ℕ, Bool, true, false, not, nat_lt, if◌then◌else◌, List, Option, Some, None, length, slice_get, slice_set, refl, sym, ◌∙◌, ap, subst, arith}
use Rattle.std.specs.Prelude.{IfSome, count_by, slice_index_or, unwrap_or}
use Rattle.std.specs.List.{list_any, AllByRecursion}
use Rattle.std.specs.Option.{option_map_or}
use Rattle.std.proofs.lemmas.Bool.{eqb-true, eqb-false}
use Rattle.lvm_num.specs.Buffer.{Buffer}
use Rattle.lvm_num.specs.declared.place.Pp.{Pp}
use Rattle.lvm_num.proofs.Booleans.{not_so}
use Rattle.lvm_num.proofs.Lists.{all_weaker, all_at, length_set, set_beside}
use Rattle.lvm_disk.specs.Device.{Flight}
use Rattle.lvm_vol.specs.declared.entry.Outcome.{Outcome}
use Rattle.lvm_vol.specs.Facts.{Fact, Request as Asked, Landed}
use Rattle.lvm_vol.specs.Legal.{begins_in}
use Rattle.lvm_vol.specs.Log.{Log, no_request, request_of, with_fact}
use Rattle.lvm_vol.specs.Order.{IsGotOf}
use Rattle.lvm_hold.specs.declared.queue.Row.{Row}
use Rattle.lvm_hold.specs.Waiting.{Waiting, is_blocked, without}
use Rattle.lvm_hold.specs.Conflicts.{conflicts}
use Rattle.lvm_mwc.specs.declared.entries.CacheEntry.{CacheEntry}
use Rattle.lvm_mwc.specs.Cache.{Cached, after_unpin}
use Rattle.lvm_mwc.specs.Entries.{AreEntries, pins_of}
use Rattle.lvm_mwc.specs.Runs.{Unpins}
use Rattle.lvm_mwc.proofs.EntriesLemmas.Pins.{entries_after, pins_after}
use Rattle.lvm_path.specs.declared.facts.Next.TheVariants as next
use Rattle.lvm_path.specs.declared.request.Phase.{Phase}
use Rattle.lvm_path.specs.declared.request.Request.{Request}
use Rattle.lvm_path.specs.declared.target.Target.{Target}
use Rattle.lvm_path.specs.Asks.{count_of, is_write, lv_of}
use Rattle.lvm_path.specs.Targets.{is_begun, is_done, is_failed}
use Rattle.lvm_path.specs.Next.{next_in}
use Rattle.lvm_session.specs.declared.bringing.OpenCopy.{OpenCopy}
use Rattle.lvm_session.specs.declared.flown.Owner.TheVariants as owner
use Rattle.lvm_session.specs.declared.open.Open.{Open}
use Rattle.lvm_session.specs.declared.open.Power.TheVariants as power
use Rattle.lvm_session.specs.State.{Core, State, state}
use Rattle.lvm_session.specs.Judging.{facts_of, group_of, held_of, is_missing, is_waiting, is_wanted_stale, next_for, place_of}
use Rattle.lvm_session.specs.Bringing.{has_row, step_of, step_row, with_back}
use Rattle.lvm_session.specs.Enabled.{is_free_step}
use Rattle.lvm_session.specs.Events.{IsDataTransfer, after_landing, got_blocks, landed_as, without_pin}
use Rattle.lvm_session.specs.Left.{clean_volumes, marks_later}
use Rattle.lvm_keeps.proofs.LeftLemmas.Updates.{open_set}
use Rattle.lvm_session.specs.Owners.{AreOwned, IsDataOf, flies, target_flies}
use Rattle.lvm_session.specs.Requests.{IsOpenOne, IsRequest}
use Rattle.lvm_session.specs.Causes.{AreCaused, AreCounted, IsAnswered, IsCaused, IsChosenSince, fails_on, is_held_stale}
use Rattle.lvm_session.specs.Sound.{IsAsked, IsCopy, IsFitting, IsGoing, IsOn, IsSound, IsTold, count_if, is_dark, is_hand, out_with, pins, waiting_rows, with_row}
use Rattle.lvm_keeps.specs.Keeps.{LandingKeeps}
use Rattle.lvm_keeps.proofs.CausesLemmas.{answered_still, copies_still, counted_still, landed_still, origin_still}
use Rattle.lvm_keeps.proofs.DarkLemmas.Ending.{back, back_long}
use Rattle.lvm_keeps.proofs.SoundLemmas.Fitting.{still_fits}
use Rattle.lvm_keeps.proofs.KeepsLemmas.Landing.{cause}
use Rattle.lvm_keeps.proofs.Lists.{all_set, any_set, count_set, set_here}
use Rattle.lvm_keeps.proofs.KeepsLemmas.NoteStart.{each_counted}
use Rattle.lvm_keeps.proofs.OwnersLemmas.Rows.{all_fly, rows_on}
use Rattle.lvm_keeps.proofs.Small.{same_blame}
use Rattle.lvm_keeps.proofs.RequestsLemmas.{bring_on, if_on, moved, open_on}
use Rattle.lvm_keeps.proofs.SoundLemmas.Telling.{asked_still, count_still}
use Rattle.lvm_keeps.proofs.SoundLemmas.Whole.{sound_when_on}
use Rattle.lvm_keeps_events.proofs.LogLemmas.{each_after, got_is, ordered_after, requests_after, table_after}
use Rattle.lvm_keeps_events.proofs.NextLemmas.{IsEnded, gives}
use Rattle.lvm_keeps_events.proofs.SoundLemmas.Tables.{any_set_less, landed_rows, rows_ascend, step_stays}
use Rattle.lvm_keeps_events.proofs.SoundLemmas.Over.{none_filter}

-- of the cache only the entries change
pub only_entries : (cache : Cached) (r : Request) → without_pin cache r ≡ record cache { entries = (without_pin cache r).entries }
only_entries cache r = by r.pinned
  where
    by : (b : Bool) → (if b then after_unpin cache (lv_of r.ask) (group_of r.ask) else cache) ≡ record cache { entries = (if b then after_unpin cache (lv_of r.ask) (group_of r.ask) else cache).entries }
    by true = refl
    by false = refl

-- a pin that it holds is given up
module _ (core : Core) (going : IsGoing core) (place : ℕ) (o : Open) (there : slice_get core.requests place ≡ Some o) where
  abbrev lv_at : ℕ
  lv_at = lv_of o.request.ask

  abbrev group_at : ℕ
  group_at = group_of o.request.ask

  has_pin : o.request.pinned ≡ true → 1 ≤ pins_of core.cache.entries lv_at group_at
  has_pin is = let same = going.pinned lv_at group_at in let low = all_at (λ (x : Open). x.request.pinned ≡ true → 1 ≤ count_by (pins (lv_of x.request.ask) (group_of x.request.ask)) core.requests) core.requests place o (each_counted core.requests) there is in omega (arith, same, low)

  pub entries_left : AreEntries (without_pin core.cache o.request).entries
  entries_left = by o.request.pinned refl
    where
      by : (b : Bool) → o.request.pinned ≡ b → AreEntries (if b then after_unpin core.cache lv_at group_at else core.cache).entries
      by true is = entries_after core.cache (Unpins lv_at group_at) going.fitting.entries (let low = has_pin is in omega (arith, low))
      by false is = going.fitting.entries

  pub pins_left : (lv group : ℕ) → pins_of (without_pin core.cache o.request).entries lv group + count_if (pins lv group o) ≡ pins_of core.cache.entries lv group
  pins_left lv group = by o.request.pinned refl
    where
      by : (b : Bool) → o.request.pinned ≡ b → pins_of (if b then after_unpin core.cache lv_at group_at else core.cache).entries lv group + count_if (b && lv_at == lv && group_at == group) ≡ pins_of core.cache.entries lv group
      by true is =
          let taken : pins_of (after_unpin core.cache lv_at group_at).entries lv group + count_if (lv_at == lv && group_at == group) ≡ pins_of core.cache.entries lv group + 0 = pins_after core.cache (Unpins lv_at group_at) lv group going.fitting.entries (let low = has_pin is in omega (arith, low)) in
          omega (arith, taken)
      by false is = omega arith

module _ (s : State) (sound : IsSound s) (on : s.core.power ≡ power.On) (place : ℕ) (o : Open) (there : slice_get s.core.requests place ≡ Some o) (how : Outcome) (lands : next_for s.core o ≡ next.Land how) where
  abbrev core : Core
  core = s.core

  abbrev landed : Open
  landed = landed_as how o

  abbrev got : List (List ℕ)
  got = got_blocks (count_of o.request.ask) o.got

  abbrev fact : Fact
  fact = Landed (request_of core.history.facts o.request.id) how (is_begun o.request.targets.items) got

  abbrev history : Log
  history = with_fact core.history fact

  abbrev requests : List Open
  requests = slice_set core.requests place landed

  abbrev queue : Waiting
  queue = record core.queue { rows = without (place_of o.request.id) core.queue.rows }

  abbrev pool : List Bool
  pool = with_back core.pool o.got

  abbrev entries : List CacheEntry
  entries = (without_pin core.cache o.request).entries

  abbrev now : State
  now = moved s history requests queue core.copy pool core.flying entries core.last

  going : IsGoing core
  going = (sound.on on).going

  its : IsOpenOne core o
  its = all_at (IsOpenOne core) core.requests place o going.requests there

  -- ---- it was waiting, and no transfer of it is out

  waits_so : is_waiting o ≡ true
  waits_so = by (is_waiting o) refl
    where
      by : (b : Bool) → is_waiting o ≡ b → b ≡ true
      by true is = refl
      by false is = absurd (let none : next.Wait ≡ next.Land how = sym (ap (λ (p : Phase). next_in p (facts_of core o.request) o.request) (its.over is).phase_is) ∙ lands in cc)

  request : IsRequest core o
  request = its.waits waits_so

  ended : IsEnded o how
  ended = gives o (facts_of core o.request) request.shape.one o.request.phase request.shape.phase_is how lands

  its_asked : IsAsked core.history.facts o
  its_asked = all_at (IsAsked core.history.facts) core.requests place o sound.told.requests there

  its_got : IsGotOf (request_of core.history.facts o.request.id) how got
  its_got = got_is (request_of core.history.facts o.request.id) how (is_write o.request.ask) (count_of o.request.ask) o.got
      (ap (λ m. (unwrap_or m no_request).count) its_asked.told ∙ its_asked.count) (ap (λ m. (unwrap_or m no_request).write) its_asked.told ∙ its_asked.write) (ended.got ∙ sym request.shape.hand)
      (λ write. request.shape.hand ∙ ap (λ b. not b && list_any (λ (t : Target). is_done t.state) o.request.targets.items) write)
      (λ buf is.
      let long : length buf.sectors ≡ 256 = subst (λ m. IfSome m (λ (b : Buffer). length b.sectors ≡ 256)) is request.shape.room in
      let few = its.laid.blocks.group in
      omega (arith, long, few))

  -- ---- the table

  fitting : IsFitting now.core
  fitting = let f = sound.fitting in still_fits core now.core f refl (entries_left core going place o there) (λ disk. refl) (subst (λ n. n ≤ core.most) (sym (length_set core.requests place landed)) f.table) (back_long core.pool o.got) f.room

  told : IsTold now.core
  told = let t = sound.told in record {
    ordered = ordered_after core.history.run core.history.facts core.requests t.ordered t.table t.each t.requests place o there waits_so how (is_begun o.request.targets.items) got its_got;
    table = table_after core.history.run core.history.facts core.requests t.ordered t.table t.each t.requests place o there waits_so how (is_begun o.request.targets.items) got its_got;
    each = each_after core.history.run core.history.facts core.requests t.ordered t.table t.each t.requests place o there waits_so how (is_begun o.request.targets.items) got its_got;
    requests = requests_after core.history.run core.history.facts core.requests t.ordered t.table t.each t.requests place o there waits_so how (is_begun o.request.targets.items) got its_got;
  }

  free_on : (at : ℕ) (ask : _) → is_blocked core.queue.rows at ask ≡ false → is_blocked queue.rows at ask ≡ false
  free_on at ask free = none_filter (λ (row : Row). nat_lt row.id at && conflicts row.ask ask) (λ (row : Row). not (row.id == place_of o.request.id)) core.queue.rows free

  still : (x : Open) → IsOpenOne core x → IsOpenOne now.core x
  still x it = open_on core history requests queue core.copy pool core.flying entries core.last x (free_on (place_of x.request.id) (held_of x.request.ask)) (λ p e. e) (λ ask. refl) it

  one : IsOpenOne now.core landed
  one = record {
    laid = let l = its.laid in record { within = l.within; blocks = l.blocks; most = l.most; id = l.id };
    waits = λ e. not_so e;
    over = λ e. record { landed = refl; phase_is = refl; hand = refl; pinned = refl };
    still = λ e. ended.out;
  }

  owned : AreOwned now.core
  owned (owner.Data id target) = going.owned (owner.Data id target) ∙ ap count_if (sym (any_set (λ (x : Open). x.request.id == id && target_flies target x) core.requests place o landed there refl))
  owned (owner.Status disk) = going.owned (owner.Status disk)
  owned (owner.Note disk) = going.owned (owner.Note disk)
  owned owner.Copy = going.owned owner.Copy

  -- ---- the queue

  waiting_left : waiting_rows requests ≡ without (place_of o.request.id) (waiting_rows core.requests)
  waiting_left = landed_rows core.requests place o landed there waits_so refl sound.told.table.ascending

  queue_is : queue.rows ≡ option_map_or (λ (c : OpenCopy). if has_row core c then with_row (step_row core c) (waiting_rows requests) else waiting_rows requests) core.copy (waiting_rows requests)
  queue_is = ap (without (place_of o.request.id)) going.queue ∙ by core.copy going.copy
    where
      of_copy : (c : OpenCopy) → IsCopy core c → (b : Bool) → without (place_of o.request.id) (if b then with_row (step_row core c) (waiting_rows core.requests) else waiting_rows core.requests) ≡ (if b then with_row (step_row core c) (waiting_rows requests) else waiting_rows requests)
      of_copy c it true =
          step_stays (step_row core c) (place_of o.request.id) (waiting_rows core.requests) (λ e. let odd = it.place.2 in absurd (omega (arith, odd, e))) (rows_ascend core.requests sound.told.table.ascending)
          ∙ ap (λ (rows : List Row). with_row (step_row core c) rows) (sym waiting_left)
      of_copy c it false = sym waiting_left

      by : (m : Option OpenCopy) → IfSome m (IsCopy core)
          → without (place_of o.request.id) (option_map_or (λ (c : OpenCopy). if has_row core c then with_row (step_row core c) (waiting_rows core.requests) else waiting_rows core.requests) m (waiting_rows core.requests))
          ≡ option_map_or (λ (c : OpenCopy). if has_row core c then with_row (step_row core c) (waiting_rows requests) else waiting_rows requests) m (waiting_rows requests)
      by None it = sym waiting_left
      by (Some c) it = of_copy c it (has_row core c)

  -- ---- what it had in hand

  hand_less : (n : ℕ) → count_by (λ (x : Open). is_hand n x.got) requests + count_if (is_hand n o.got) ≡ count_by (λ (x : Open). is_hand n x.got) core.requests
  hand_less n = let all = count_set (λ (x : Open). is_hand n x.got) core.requests place o landed there in omega (arith, all)

  pool_less : (n : ℕ) → count_if (slice_index_or pool n false) + count_if (is_hand n o.got) ≡ count_if (slice_index_or core.pool n false)
  pool_less n = back core.pool o.got n (let low = going.hands n in let less = hand_less n in omega (arith, low, less))

  -- ---- the copy that is open

  next_still : count_by (begins_in core.history.run) history.facts ≡ count_by (begins_in core.history.run) core.history.facts
  next_still = count_still core.history.run core.history.facts fact refl

  bring : (c : OpenCopy) → IsCopy core c → IsCopy now.core c
  bring c it = bring_on core history requests queue core.copy pool core.flying entries core.last c (let same = next_still in omega (arith, same)) (λ free. open_step c free) it
    where
      not_so_not : (b : Bool) → not b ≡ true → b ≡ false
      not_so_not true e = not_so e
      not_so_not false e = refl

      open_step : (c : OpenCopy) → is_free_step core c ≡ true → is_free_step now.core c ≡ true
      open_step c free = ap not (free_on c.place (step_of core c) (not_so_not (is_blocked core.queue.rows c.place (step_of core c)) free))

  keeps_going : IsGoing now.core
  keeps_going = record {
    fitting = fitting;
    told = told;
    status = going.status;
    owned = owned;
    tickets = going.tickets;
    queue = queue_is;
    pinned = λ lv group.
        let was = going.pinned lv group in
        let less = pins_left core going place o there lv group in
        let counted = count_set (pins lv group) core.requests place o landed there in
        omega (arith, was, less, counted);
    requests = all_set (IsOpenOne core) (IsOpenOne now.core) still core.requests place landed one going.requests;
    copy = if_on (IsCopy core) (IsCopy now.core) bring core.copy going.copy;
    hands = λ n. let was = going.hands n in let less = hand_less n in let given = pool_less n in omega (arith, was, less, given);
    behind = going.behind;
    reviewed = going.reviewed;
    fresh = going.fresh;
    clearings = going.clearings;
    numbers = let fewer = count_set marks_later core.requests place o landed there in let still_open = open_set core.requests place landed (clean_volumes core) in let was = going.numbers in omega (arith, fewer, still_open, was);
  }

  -- ---- the shelf and the causes

  data_on : (id target : ℕ) (f : Flight) → flies core (owner.Data id target) ≡ true → IsDataOf core id target f → IsDataOf now.core id target f
  data_on id target f fly of = by (of.place == place) refl
    where
      carried : (r : Request) → IsDataTransfer core r of.aim f → (q : Request) → q.id ≡ r.id → q.ask ≡ r.ask → IsDataTransfer now.core q of.aim f
      carried r m q same_id same_ask = record {
        disk_is = m.disk_is;
        first = m.first;
        count = m.count ∙ sym (ap count_of same_ask);
        write = m.write ∙ sym (ap is_write same_ask);
        carries = λ write k below. m.carries (sym (ap is_write same_ask) ∙ write) k below
            ∙ sym (ap (λ (x : Option Asked). slice_get (unwrap_or x no_request).blocks k) (asked_still core.history.facts fact refl q.id) ∙ ap (λ i. slice_get (request_of core.history.facts i).blocks k) same_id);
      }

      by : (b : Bool) → (of.place == place) ≡ b → IsDataOf now.core id target f
      by true is = record {
        place = place;
        request = landed;
        there = set_here core.requests place o landed there;
        own = ap (λ (x : Open). x.request.id) same ∙ of.own;
        aim = of.aim;
        aim_is = ap (λ (x : Open). slice_get x.request.targets.items target) same ∙ of.aim_is;
        moves = carried of.request.request of.moves landed.request (ap (λ (x : Open). x.request.id) same) (ap (λ (x : Open). x.request.ask) same);
      }
        where
          same : o ≡ of.request
          same = cc (sym there ∙ ap (slice_get core.requests) (sym (eqb-true of.place place is)) ∙ of.there)
      by false is = record { place = of.place; request = of.request; there = set_beside core.requests place of.place landed (eqb-false of.place place is) ∙ of.there; own = of.own; aim = of.aim; aim_is = of.aim_is; moves = carried of.request.request of.moves of.request.request refl refl }

  blamed_before : (p : Pp) → list_any (fails_on p) requests ≡ true → list_any (fails_on p) core.requests ≡ true
  blamed_before p is = any_set_less (fails_on p) core.requests place landed refl is

  caused : (x : Open) → AreCaused s.device core x → AreCaused s.device now.core x
  caused x all waiting = all_weaker (IsCaused s.device core) (IsCaused s.device now.core) target_caused x.request.targets.items (all waiting)
    where
      target_caused : (t : Target) → IsCaused s.device core t → IsCaused s.device now.core t
      target_caused t why e = why (same_blame (is_failed t.state) t.usable (is_missing core t.pp.disk) (is_wanted_stale core t.pp) (is_held_stale core t.pp) (list_any (fails_on t.pp) core.requests) (list_any (fails_on t.pp) requests) (blamed_before t.pp) e)

  chosen : (c : OpenCopy) → AllByRecursion (IsChosenSince core c) core.requests → AllByRecursion (IsChosenSince now.core c) requests
  chosen c all = all_set (IsChosenSince core c) (IsChosenSince now.core c) (λ x is. is) core.requests place landed (λ waiting. not_so waiting) all

  keeps_on : IsOn now
  keeps_on = let was = sound.on on in record {
    going = keeps_going;
    rows = rows_on core history requests queue pool core.flying entries core.last data_on core.flying s.device.flights (all_fly core going.owned) was.rows;
    caused = all_set (AreCaused s.device core) (AreCaused s.device now.core) caused core.requests place landed (λ waiting. not_so waiting) was.caused;
    chosen = if_on (λ (c : OpenCopy). AllByRecursion (IsChosenSince core c) core.requests) (λ (c : OpenCopy). AllByRecursion (IsChosenSince now.core c) requests) chosen core.copy was.chosen;
  }

  -- ---- all of it

  out : (n : ℕ) → out_with s.device now.core n ≡ count_if (slice_index_or pool n false)
  out n =
      let was = sound.none_lost (ap is_dark on) n in
      let less = hand_less n in
      let given = pool_less n in
      omega (arith, was, less, given)

  pub keeps : IsSound now
  keeps = sound_when_on s now refl refl sound on fitting told keeps_on out
      (all_set (AreCounted s) (AreCounted now) (counted_still s now refl) core.requests place landed (counted_still s now refl o (all_at (AreCounted s) core.requests place o sound.counted there)) sound.counted)
      (all_set (IsAnswered s) (IsAnswered now) (answered_still s now refl) core.requests place landed (landed_still s now refl o landed refl how (cause s sound on place o there how lands)) sound.answered) (copies_still s now refl core.copy sound.copy)
      (origin_still s now refl refl sound.origin)

pub landing_keeps : LandingKeeps
landing_keeps place how old new sound on event =
    subst IsSound (sym (event.is ∙ ap (λ (c : Cached). state old.device (record made { cache = c })) (only_entries old.core.cache event.request.request))) (keeps old sound on place event.request event.there how event.lands)
  where
    made : Core
    made = after_landing old.core place event.request how
