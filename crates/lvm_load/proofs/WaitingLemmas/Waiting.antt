-- Each client that has a request open has one in the table that waits.
use Rattle.std.proofs.Common.{◌≡◌, ◌≤◌, ◌<◌, ◌+◌, ◌==◌, ◌&&◌, ◌||◌, inl, inr, ⊎_elim, ℕ, zero, suc, Bool, true, false, List, length, Option, Some, None, slice_get, slice_set, refl, sym, ap, ◌∙◌, subst, arith}
use Rattle.std.specs.Prelude.{Err, MatchOption, Ok, is_none, nat_lt, position, set}
use Rattle.std.specs.List.{list_any}
use Rattle.std.specs.Option.{option_map_or}
use Rattle.std.proofs.lemmas.Map.Keys.{any_passes_from_place}
use Rattle.std.proofs.lemmas.Bool.{cases_lt, eq-eqb, eqb-true, eqb-false, ltb-false, or_right, or_parts}
use Rattle.std.proofs.lemmas.List.{length-append}
use Rattle.std.proofs.lemmas.List.Folds.{list_any-append}
use Rattle.std.proofs.lemmas.List.Quantifiers.{position-Some}
use Rattle.std.proofs.lemmas.Option.{get_or_from_slice_get, slice_get_past}
use Rattle.lvm_num.proofs.Lists.{set_beside}
use Rattle.rand_pcg.specs.Lcg.{Lcg}
use Rattle.lvm_vol.specs.declared.entry.Outcome.{Outcome}
use Rattle.lvm_vol.specs.declared.entry.Outcome.TheVariants as outcome
use Rattle.lvm_vol.specs.Facts.{Fact}
use Rattle.lvm_vol.specs.Log.{next_id}
use Rattle.lvm_workers.specs.Draws.{draw_at}
use Rattle.lvm_path.specs.declared.ask.Ask.{Ask}
use Rattle.lvm_path.specs.Asks.{count_of}
use Rattle.lvm_session.specs.declared.answers.AskFault.{AskFault}
use Rattle.lvm_session.specs.declared.answers.Taken.{Taken}
use Rattle.lvm_session.specs.declared.answers.Taken.TheVariants as taken
use Rattle.lvm_session.specs.declared.answers.Turned.{Turned}
use Rattle.lvm_session.specs.declared.answers.Turned.TheVariants as turned
use Rattle.lvm_session.specs.declared.event.Event.{Event}
use Rattle.lvm_session.specs.declared.event.Event.TheVariants as event
use Rattle.lvm_session.specs.declared.flown.Owner.{Owner}
use Rattle.lvm_session.specs.declared.flown.Owner.TheVariants as owner
use Rattle.lvm_session.specs.declared.open.Open.{Open}
use Rattle.lvm_session.specs.Calls.{TakeAt, TakeGives, TakesLanded, fault_by, fault_on, is_asked, submitted, taken_as}
use Rattle.lvm_session.specs.Ends.{Ends, Learns}
use Rattle.lvm_session.specs.Events.{Lands}
use Rattle.lvm_session.specs.Judging.{is_running, is_waiting}
use Rattle.lvm_session.specs.State.{Core, State}
use Rattle.lvm_session.specs.Turns.{FinishMakes, Finishes, Makes, Moves, NoStart, OnMakes, TurnMakes, WasDark, WasOff, WasOn}
use Rattle.lvm_keeps.proofs.Lists.{any_removed, any_set, set_here}
use Rattle.lvm_keeps.proofs.Small.{both}
use Rattle.lvm_keeps_events.specs.Turning.{is_last}
use Rattle.lvm_keeps_events.proofs.TellingLemmas.Frames.{copy_stays, marked_stays, note_stays, status_stays}
use Rattle.lvm_load.specs.declared.client.Client.{Client}
use Rattle.lvm_load.specs.Requests.{ask_of, bytes_of, word_of}
use Rattle.lvm_load.specs.Waiting.{AreWaiting, waits_for}
use Rattle.lvm_load.specs.Weaving.{AsksDrawn, Names, NextClient, NoClient, NoneOpen, Takes, TakesEach, TakesFor, TakesWhere, Turns, Waits, Weaving, drew, fresh_clients, might_have_landed, open_of, opened_by}

-- ---- a turn

abbrev pub SameWaiting : Core → Core → Type 0
SameWaiting old new = (client id : ℕ) → list_any (waits_for client id) new.requests ≡ list_any (waits_for client id) old.requests

stay : (old new : Core) → new.requests ≡ old.requests → SameWaiting old new
stay old new requests client id = ap (list_any (waits_for client id)) requests

set_one : (old new : Core) (k : ℕ) (x y : Open) → slice_get old.requests k ≡ Some x → new.requests ≡ slice_set old.requests k y → ((client id : ℕ) → waits_for client id y ≡ waits_for client id x) → SameWaiting old new
set_one old new k x y there set same client id = ap (list_any (waits_for client id)) set ∙ any_set (waits_for client id) old.requests k x y there (same client id)

-- while the session goes on, all that waited wait still, or one of them lands
pub data Goes (old new : State) : Type 0 where
  Still : SameWaiting old.core new.core → Goes old new
  One : (place : ℕ) (how : Outcome) → Lands old new place how → Goes old new

event_goes : (it : Event) (old new : State) → Makes it old new → Goes old new
event_goes (event.Land place how) old new made = One place how made
event_goes (event.Admit place) old new made = Still (set_one old.core new.core place made.request _ made.there (ap (λ (s : State). s.core.requests) made.is) (λ client id. refl))
event_goes (event.Pin place) old new made = Still (set_one old.core new.core place made.request _ made.there (ap (λ (s : State). s.core.requests) made.is) (λ client id. refl))
event_goes event.StartStatus old new made = Still (stay old.core new.core (ap (λ (s : State). s.core.requests) made.is))
event_goes (event.StartNote place disk) old new made = Still (stay old.core new.core (ap (λ (s : State). s.core.requests) made.is))
event_goes (event.StartData place target) old new made = Still (set_one old.core new.core place made.its.request _ made.its.there (ap (λ (s : State). s.core.requests) made.is) (λ client id. refl))
event_goes event.ReadCopy old new made = Still (stay old.core new.core (ap (λ (s : State). s.core.requests) made.is))
event_goes event.WriteCopy old new made = Still (stay old.core new.core (ap (λ (s : State). s.core.requests) made.is))

end_keeps : (old new : State) (at : ℕ) → Ends old new at → SameWaiting old.core new.core
end_keeps old new at it = by it.row.owner it.learns
  where
    by : (who : Owner) → Learns who old.core at it.ok it.buf new.core → SameWaiting old.core new.core
    by (owner.Data id target) learns = set_one old.core new.core learns.place learns.its.request _ learns.its.there (marked_stays _ new.core _ learns.entails.is).requests (λ client id. refl)
    by (owner.Status disk) learns = stay old.core new.core (status_stays old.core new.core at disk it.ok it.buf learns).requests
    by (owner.Note disk) learns = stay old.core new.core (note_stays old.core new.core at disk it.ok it.buf learns).requests
    by owner.Copy learns = stay old.core new.core (copy_stays (is_running learns.copy) it.ok old.core new.core at learns.copy it.buf learns.learns).requests

finish_keeps : (old new : State) (answer : Turned) → is_last answer ≡ false → FinishMakes old new answer → SameWaiting old.core new.core
finish_keeps old new turned.Moved goes made = end_keeps old new made.0 made.1
finish_keeps old new turned.Idle goes (inl finds) = stay old.core new.core (ap (λ (c : Core). c.requests) finds.is)
finish_keeps old new turned.Idle goes (inr nothing) = stay old.core new.core (ap (λ (s : State). s.core.requests) nothing.is)
finish_keeps old new turned.Dark goes made = absurd (cc goes)
finish_keeps old new turned.Off goes made = absurd (cc goes)

on_goes : (old new : State) (answer : Turned) → is_last answer ≡ false → OnMakes old new answer → Goes old new
on_goes old new answer goes (Moves it first made is) = event_goes it old new made
on_goes old new answer goes (NoStart it first start dark is) = absurd (let e : true ≡ false = ap is_last (sym is) ∙ goes in cc e)
on_goes old new answer goes (Finishes none made) = Still (finish_keeps old new answer goes made)

pub turn_goes : (old new : State) (answer : Turned) → TurnMakes old new answer → is_last answer ≡ false → Goes old new
turn_goes old new answer (WasDark dark is same) goes = Still (stay old.core new.core (ap (λ (s : State). s.core.requests) same))
turn_goes old new answer (WasOff off is same) goes = Still (stay old.core new.core (ap (λ (s : State). s.core.requests) same))
turn_goes old new answer (WasOn on made) goes = on_goes old new answer goes made

-- where the history hasn't grown, and the session goes on, the same requests wait
pub turn_keeps : (old new : State) (answer : Turned) → TurnMakes old new answer → is_last answer ≡ false → length new.core.history.facts ≤ length old.core.history.facts → SameWaiting old.core new.core
turn_keeps old new answer made goes short = by (turn_goes old new answer made goes)
  where
    by : Goes old new → SameWaiting old.core new.core
    by (Still same) = same
    by (One place how lands) =
        let facts : List Fact = old.core.history.facts in
        let grew = ap (λ (s : State). length s.core.history.facts) lands.is ∙ length-append facts _ in
        absurd (omega (arith, grew, short))

-- ---- clients

pub open_here : (clients : List Client) (k : ℕ) (c d : Client) → slice_get clients k ≡ Some d → open_of (set clients k c) k ≡ c.request
open_here clients k c d there = ap (λ (m : Option Client). option_map_or (λ (x : Client). x.request) m None) (set_here clients k d c there)

pub open_beside : (clients : List Client) (k j : ℕ) (c : Client) → (j ≡ k → ⊥) → open_of (set clients k c) j ≡ open_of clients j
open_beside clients k j c other = ap (λ (m : Option Client). option_map_or (λ (x : Client). x.request) m None) (set_beside clients k j c other)

none_open : (k : ℕ) (n : ℕ) → open_of (fresh_clients n) k ≡ None
none_open k zero = refl
none_open zero (suc n) = refl
none_open (suc k) (suc n) = none_open k n

-- one that has drawn nothing waits for nothing
pub fresh_wait : (core : Core) (n : ℕ) → AreWaiting core (fresh_clients n)
fresh_wait core n k id has = absurd (let e : ◌≡◌ {A = Option ℕ} None (Some id) = sym (none_open k n) ∙ has in cc e)

-- ---- an answer that is taken

-- What is left once the answer of one client is: the others wait as they did, it waits still or has none open, and the power is as it was.
pub record LeftBy (k : ℕ) (old new : State) (clients after : List Client) : Type 0 where
  pub own : (id : ℕ) → open_of after k ≡ Some id → list_any (waits_for (k + 1) id) new.core.requests ≡ true
  pub others : (j : ℕ) → (j ≡ k → ⊥) → open_of after j ≡ open_of clients j
  pub waiting : (j id : ℕ) → (j ≡ k → ⊥) → list_any (waits_for (j + 1) id) new.core.requests ≡ list_any (waits_for (j + 1) id) old.core.requests
  pub any : list_any is_waiting new.core.requests ≡ list_any is_waiting old.core.requests
  pub power : new.core.power ≡ old.core.power
  pub device : new.device ≡ old.device

pub never_yet : (how : Outcome) (place count : ℕ) → taken.NotYet ≡ taken_as how place count → ⊥
never_yet outcome.Done place count e = absurd (cc e)
never_yet outcome.Got place count e = absurd (cc e)
never_yet outcome.Lost place count e = absurd (cc e)
never_yet outcome.ReadFailed place count e = absurd (cc e)
never_yet outcome.NoFresh place count e = absurd (cc e)
never_yet outcome.Off place count e = absurd (cc e)
never_yet outcome.Dark place count e = absurd (cc e)

-- the request that is found at a place is the one that is asked for
pub found : (client id : ℕ) (os : List Open) (place : ℕ) (o : Open) → position (is_asked client id) os ≡ Some place → slice_get os place ≡ Some o → is_asked client id o ≡ true
found client id os place o is there =
    let it = position-Some (is_asked client id) os place o is in
    ap (is_asked client id) (sym (get_or_from_slice_get os place o o there)) ∙ it.1

-- another client's request isn't this one
pub not_its : (k id : ℕ) (o : Open) (j id1 : ℕ) → (j ≡ k → ⊥) → is_asked (k + 1) id o ≡ true → is_asked (j + 1) id1 o ≡ false
not_its k id o j id1 beside asks = by_test (o.request.client == (j + 1)) refl (eqb-true o.request.client (k + 1) (both (o.request.client == (k + 1)) (o.request.id == id) asks).0)
  where
    by_test : (b : Bool) → (o.request.client == (j + 1)) ≡ b → o.request.client ≡ k + 1 → is_asked (j + 1) id1 o ≡ false
    by_test true is client = absurd (beside (let own = eqb-true o.request.client (j + 1) is in omega (arith, own, client)))
    by_test false is client = ap (λ b. b && (o.request.id == id1)) is

same_left : (k : ℕ) (old new : State) (clients after : List Client) → new.core ≡ old.core → new.device ≡ old.device → ((id : ℕ) → open_of after k ≡ Some id → list_any (waits_for (k + 1) id) new.core.requests ≡ true)
    → ((j : ℕ) → (j ≡ k → ⊥) → open_of after j ≡ open_of clients j) → LeftBy k old new clients after
same_left k old new clients after same shelf own others = record {
  own = own;
  others = others;
  waiting = λ j id other. ap (λ (c : Core). list_any (waits_for (j + 1) id) c.requests) same;
  any = ap (λ (c : Core). list_any is_waiting c.requests) same;
  power = ap (λ (c : Core). c.power) same;
  device = shelf;
}

module _ (k : ℕ) (old new : State) (clients after : List Client) where
  -- it hasn't landed
  not_yet : (id : ℕ) → open_of clients k ≡ Some id → TakeGives old.core new.core (k + 1) id taken.NotYet → new.device ≡ old.device → after ≡ clients → LeftBy k old new clients after
  not_yet id is gives shelf still = by (position (is_asked (k + 1) id) old.core.requests) refl gives
    where
      at_place : (place : ℕ) (o : Open) → position (is_asked (k + 1) id) old.core.requests ≡ Some place → slice_get old.core.requests place ≡ Some o → (l : Option Outcome) → o.landed ≡ l → TakesLanded old.core new.core place o taken.NotYet l → LeftBy k old new clients after
      at_place place o at there None waits takes =
          same_left k old new clients after takes.1 shelf
          (λ id1 has.
          let same : Some id ≡ Some id1 = sym is ∙ ap (λ (cs : List Client). open_of cs k) (sym still) ∙ has in
          let it : id ≡ id1 = cc same in
          let asks = found (k + 1) id old.core.requests place o at there in
          let so : waits_for (k + 1) id o ≡ true = ap (λ b. b && is_waiting o) asks ∙ ap is_none waits in
          subst (λ n. list_any (waits_for (k + 1) n) new.core.requests ≡ true) it
          (ap (λ (c : Core). list_any (waits_for (k + 1) id) c.requests) takes.1 ∙ any_passes_from_place (waits_for (k + 1) id) old.core.requests place o there so))
          (λ j other. ap (λ (cs : List Client). open_of cs j) still)
      at_place place o at there (Some how) landed takes = absurd (never_yet how o.place (count_of o.request.ask) takes.0)

      by : (p : Option ℕ) → position (is_asked (k + 1) id) old.core.requests ≡ p → MatchOption p ((taken.NotYet ≡ taken.Unknown) × (new.core ≡ old.core)) (λ (place : ℕ). TakeAt old.core new.core place taken.NotYet) → LeftBy k old new clients after
      by None at none = absurd (let e = none.0 in cc e)
      by (Some place) at it = at_place place it.0 at it.1 it.0.landed refl it.2

  -- it has
  goes : (c : Client) (id : ℕ) (how : Taken) → slice_get clients k ≡ Some c → TakeGives old.core new.core (k + 1) id how → (how ≡ taken.NotYet → ⊥) → new.device ≡ old.device → after ≡ set clients k (record c { request = None }) → LeftBy k old new clients after
  goes c id how there gives other shelf put = by (position (is_asked (k + 1) id) old.core.requests) refl gives
    where
      own : (id1 : ℕ) → open_of after k ≡ Some id1 → list_any (waits_for (k + 1) id1) new.core.requests ≡ true
      own id1 has = absurd (let e : ◌≡◌ {A = Option ℕ} None (Some id1) = sym (ap (λ (cs : List Client). open_of cs k) put ∙ open_here clients k (record c { request = None }) c there) ∙ has in cc e)

      others : (j : ℕ) → (j ≡ k → ⊥) → open_of after j ≡ open_of clients j
      others j beside = ap (λ (cs : List Client). open_of cs j) put ∙ open_beside clients k j (record c { request = None }) beside

      at_place : (place : ℕ) (o : Open) → position (is_asked (k + 1) id) old.core.requests ≡ Some place → slice_get old.core.requests place ≡ Some o → (l : Option Outcome) → o.landed ≡ l → TakesLanded old.core new.core place o how l → LeftBy k old new clients after
      at_place place o at here None waits takes = absurd (other takes.0)
      at_place place o at here (Some so) landed takes = record {
        own = own;
        others = others;
        waiting = λ j id1 beside. ap (λ (c : Core). list_any (waits_for (j + 1) id1) c.requests) takes.1
            ∙ any_removed (waits_for (j + 1) id1) old.core.requests place o here (ap (λ b. b && is_waiting o) (not_its k id o j id1 beside (found (k + 1) id old.core.requests place o at here)));
        any = ap (λ (c : Core). list_any is_waiting c.requests) takes.1 ∙ any_removed is_waiting old.core.requests place o here (ap is_none landed);
        power = ap (λ (c : Core). c.power) takes.1;
        device = shelf;
      }

      by : (p : Option ℕ) → position (is_asked (k + 1) id) old.core.requests ≡ p → MatchOption p ((how ≡ taken.Unknown) × (new.core ≡ old.core)) (λ (place : ℕ). TakeAt old.core new.core place how) → LeftBy k old new clients after
      by None at none = same_left k old new clients after none.1 shelf own others
      by (Some place) at it = at_place place it.0 at it.1 it.0.landed refl it.2

  pub left_by : TakesFor k old new clients after → LeftBy k old new clients after
  left_by (NoneOpen none same still) =
      same_left k old new clients after (ap (λ (s : State). s.core) same) (ap (λ (s : State). s.device) same)
      (λ id has. absurd (let e : ◌≡◌ {A = Option ℕ} None (Some id) = sym none ∙ ap (λ (cs : List Client). open_of cs k) (sym still) ∙ has in cc e))
      (λ j other. ap (λ (cs : List Client). open_of cs j) still)
  left_by (Waits id is gives shelf still) = not_yet id is gives shelf still
  left_by (Takes c id how there is gives other shelf put) = goes c id how there gives other shelf put

-- What is left once the answers of so many clients are: each of them waits or has none open.
pub record LeftByEach (n : ℕ) (first new : State) (clients after : List Client) : Type 0 where
  pub own : (j id : ℕ) → j < n → open_of after j ≡ Some id → list_any (waits_for (j + 1) id) new.core.requests ≡ true
  pub others : (j : ℕ) → n ≤ j → open_of after j ≡ open_of clients j
  pub any : list_any is_waiting new.core.requests ≡ list_any is_waiting first.core.requests
  pub power : new.core.power ≡ first.core.power
  pub device : new.device ≡ first.device

-- one client more
module _ (first old new : State) (clients before after : List Client) (k : ℕ) (earlier : LeftByEach k first old clients before) (last : LeftBy k old new before after) where
  its_own : (j id : ℕ) → j < k + 1 → open_of after j ≡ Some id → (b : Bool) → (j == k) ≡ b → list_any (waits_for (j + 1) id) new.core.requests ≡ true
  its_own j id less has true is =
      let same : k ≡ j = sym (eqb-true j k is) in
      subst (λ m. open_of after m ≡ Some id → list_any (waits_for (m + 1) id) new.core.requests ≡ true) same (last.own id) has
  its_own j id less has false is =
      let beside : j ≡ k → ⊥ = eqb-false j k is in
      let below : j < k = ⊎_elim (λ lt. lt) (λ le. absurd (beside (omega (arith, less, le)))) (cases_lt j k) in
      last.waiting j id beside ∙ earlier.own j id below (sym (last.others j beside) ∙ has)

  left_by_more : LeftByEach (k + 1) first new clients after
  left_by_more = record {
    own = λ j id less has. its_own j id less has (j == k) refl;
    others = λ j le. last.others j (λ e. omega (arith, e, le)) ∙ earlier.others j (omega (arith, le));
    any = last.any ∙ earlier.any;
    power = last.power ∙ earlier.power;
    device = last.device ∙ earlier.device;
  }

pub left_by_each : (first : State) (clients : List Client) (n : ℕ) (new : State) (after : List Client) → TakesEach first clients n new after → LeftByEach n first new clients after
left_by_each first clients n new after NoClient = record { own = λ j id less has. absurd (omega (arith, less)); others = λ j le. refl; any = refl; power = refl; device = refl }
left_by_each first clients n new after (NextClient {k = k} {old = old} {before = before} so_far takes) =
    left_by_more first old new clients before after k (left_by_each first clients k old before so_far) (left_by k old new before after takes)

-- once all are taken, each client that has one open waits
pub all_waiting : (first new : State) (clients after : List Client) → LeftByEach (length clients) first new clients after → AreWaiting new.core after
all_waiting first new clients after left k id has = ⊎_elim (λ less. left.own k id less has) (λ le. absurd (none le)) (cases_lt k (length clients))
  where
    none : length clients ≤ k → ⊥
    none le =
        let past : open_of clients k ≡ None = ap (λ (m : Option Client). option_map_or (λ (x : Client). x.request) m None) (slice_get_past clients k le) in
        let e : ◌≡◌ {A = Option ℕ} None (Some id) = sym past ∙ sym (left.others k le) ∙ has in
        cc e

-- so behind a turn, whether what has landed is taken or nothing has
pub behind_waits : (old mid new : State) (clients after : List Client) (answer : Turned) → AreWaiting old.core clients → TurnMakes old mid answer → (b : Bool) → might_have_landed old mid answer ≡ b → TakesWhere b mid new clients after
    → AreWaiting new.core after
behind_waits old mid new clients after answer waiting made true may takes k id has = all_waiting mid new clients after (left_by_each mid clients (length clients) new after takes) k id has
behind_waits old mid new clients after answer waiting made false may still k id has =
    let no = or_parts (nat_lt (length old.core.history.facts) (length mid.core.history.facts)) (is_last answer) may in
    let same = turn_keeps old mid answer made no.1 (ltb-false (length old.core.history.facts) (length mid.core.history.facts) no.0) in
    ap (λ (s : State). list_any (waits_for (k + 1) id) s.core.requests) still.0 ∙ same (k + 1) id ∙ waiting k id (ap (λ (cs : List Client). open_of cs k) (sym still.1) ∙ has)

pub turn_waits : (old new : State) (clients after : List Client) (idle idle1 : ℕ) → AreWaiting old.core clients → Turns old new clients after idle idle1 → AreWaiting new.core after
turn_waits old new clients after idle idle1 waiting turns = behind_waits old turns.mid new clients after turns.answer waiting turns.made (might_have_landed old turns.mid turns.answer) refl turns.takes

-- ---- a request is drawn

pub named_free : (first new : Weaving) (k : ℕ) → Names first new k → open_of new.clients k ≡ None
named_free first new k names = ap (λ (w : Weaving). open_of w.clients k) names.is ∙ names.free

module _ (lv blocks k : ℕ) (g : Lcg) (old new : State) (clients after : List Client) (more : Bool) (free : open_of clients k ≡ None) (asks : AsksDrawn lv blocks k g old new clients after more) where
  pub here : open_of after k ≡ opened_by asks.client.request asks.answer
  here = ap (λ (cs : List Client). open_of cs k) asks.after_is ∙ open_here clients k (drew asks.client (opened_by asks.client.request asks.answer)) asks.client asks.client_is

  pub beside : (j : ℕ) → (j ≡ k → ⊥) → open_of after j ≡ open_of clients j
  beside j other = ap (λ (cs : List Client). open_of cs j) asks.after_is ∙ open_beside clients k j (drew asks.client (opened_by asks.client.request asks.answer)) other

  pub none_before : asks.client.request ≡ None
  none_before = sym (ap (λ (m : Option Client). option_map_or (λ (c : Client). c.request) m None) asks.client_is) ∙ free

  -- where the request isn't taken the same are open
  pub unmoved : (why : AskFault) → asks.answer ≡ Err why → (j : ℕ) → open_of after j ≡ open_of clients j
  unmoved why is j = by (j == k) refl
    where
      by : (b : Bool) → (j == k) ≡ b → open_of after j ≡ open_of clients j
      by true at =
          let it : k ≡ j = sym (eqb-true j k at) in
          subst (λ n. open_of after n ≡ open_of clients n) it (here ∙ ap (opened_by asks.client.request) is ∙ none_before ∙ sym free)
      by false at = beside j (eqb-false j k at)

module _ (lv blocks k : ℕ) (g : Lcg) (old new : State) (clients after : List Client) (more : Bool) (waiting : AreWaiting old.core clients) (free : open_of clients k ≡ None) (asks : AsksDrawn lv blocks k g old new clients after more) where
  abbrev ask : Ask
  ask = ask_of lv blocks (draw_at g)

  abbrev bytes : Option (List ℕ)
  bytes = bytes_of (word_of (k + 1) asks.client.offset) blocks (draw_at g)

  -- nothing changes
  refused : (why : AskFault) → asks.answer ≡ Err why → new.core ≡ old.core → AreWaiting new.core after
  refused why is same j id has =
      ap (λ (c : Core). list_any (waits_for (j + 1) id) c.requests) same ∙ waiting j id (sym (unmoved lv blocks k g old new clients after more free asks why is j) ∙ has)

  -- one waits more
  taken_in : asks.answer ≡ Ok (next_id old.core.history) → new.core ≡ submitted old.core (k + 1) ask bytes → AreWaiting new.core after
  taken_in is same j id has = by (j == k) refl
    where
      behind_them : list_any (waits_for (j + 1) id) new.core.requests ≡ (list_any (waits_for (j + 1) id) old.core.requests || (((((k + 1) == (j + 1)) && (next_id old.core.history == id)) && true) || false))
      behind_them = ap (λ (c : Core). list_any (waits_for (j + 1) id) c.requests) same ∙ list_any-append (waits_for (j + 1) id) old.core.requests _

      by : (b : Bool) → (j == k) ≡ b → list_any (waits_for (j + 1) id) new.core.requests ≡ true
      by true at =
          let it : j ≡ k = eqb-true j k at in
          let e : Some (next_id old.core.history) ≡ Some id = sym (here lv blocks k g old new clients after more free asks ∙ ap (opened_by asks.client.request) is) ∙ subst (λ n. open_of after n ≡ Some id) it has in
          let number : next_id old.core.history ≡ id = cc e in
          behind_them
          ∙ ap (λ b. list_any (waits_for (j + 1) id) old.core.requests || (((b && (next_id old.core.history == id)) && true) || false)) (eq-eqb (k + 1) (j + 1) (omega (arith, it)))
          ∙ ap (λ b. list_any (waits_for (j + 1) id) old.core.requests || ((b && true) || false)) (eq-eqb (next_id old.core.history) id number)
          ∙ or_right (list_any (waits_for (j + 1) id) old.core.requests) true refl
      by false at =
          behind_them
          ∙ ap (λ b. b || (((((k + 1) == (j + 1)) && (next_id old.core.history == id)) && true) || false)) (waiting j id (sym (beside lv blocks k g old new clients after more free asks j (eqb-false j k at)) ∙ has))

  -- a client that has none open asks
  pub asks_wait : AreWaiting new.core after
  asks_wait = by (fault_by old.core.power (fault_on old.core ask)) asks.submits
    where
      by : (m : Option AskFault) → MatchOption m ((asks.answer ≡ Ok (next_id old.core.history)) × (new.core ≡ submitted old.core (k + 1) ask bytes)) (λ (why : AskFault). (asks.answer ≡ Err why) × (new.core ≡ old.core))
          → AreWaiting new.core after
      by None took = taken_in took.0 took.1
      by (Some why) not = refused why not.0 not.1
