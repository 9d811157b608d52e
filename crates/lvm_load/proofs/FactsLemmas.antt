-- How many requests begin as the history grows.
use Rattle.std.proofs.Common.{◌≡◌, inl, inr, ◌+◌, ℕ, Bool, true, false, List, [], ◌∷◌, ◌++◌, length, drop, Option, Some, None, cond, refl, sym, ap, ◌∙◌, subst, append_assoc, if◌then◌else◌, arith}
use Rattle.std.specs.Prelude.{Result, Ok, Err, MatchOption, count_by, position}
use Rattle.std.proofs.lemmas.List.{append-nil}
use Rattle.std.proofs.lemmas.List.Sums.{sum_by-append, sum_by-cons}
use Rattle.lvm_vol.specs.declared.entry.Outcome.{Outcome}
use Rattle.lvm_vol.specs.declared.entry.Outcome.TheVariants as outcome
use Rattle.lvm_vol.specs.Facts.{Fact, Making, Made, Split, Removing, Removed, Begun, Landed, Taken, Cut, On}
use Rattle.lvm_vol.specs.Log.{Log, cut_log, entries_from, entry_at, is_uncut, landed_fact, next_id, place_after, with_fact}
use Rattle.lvm_path.specs.declared.ask.Ask.{Ask}
use Rattle.lvm_path.specs.Targets.{is_begun}
use Rattle.lvm_session.specs.declared.answers.AskFault.{AskFault}
use Rattle.lvm_session.specs.declared.answers.Taken.{Taken as Answer}
use Rattle.lvm_session.specs.declared.answers.Taken.TheVariants as taken
use Rattle.lvm_session.specs.declared.answers.Turned.{Turned}
use Rattle.lvm_session.specs.declared.answers.Turned.TheVariants as turned
use Rattle.lvm_session.specs.declared.event.Event.{Event}
use Rattle.lvm_session.specs.declared.event.Event.TheVariants as event
use Rattle.lvm_session.specs.declared.open.Open.{Open}
use Rattle.lvm_session.specs.Calls.{SubmitGives, TakeAt, TakeGives, TakesLanded, ask_fault, is_asked, submitted}
use Rattle.lvm_session.specs.Dark.{landings}
use Rattle.lvm_session.specs.Judging.{is_waiting}
use Rattle.lvm_session.specs.State.{Core, State}
use Rattle.lvm_session.specs.Turns.{Darkens, FinishMakes, Finishes, GoesOff, Makes, Moves, NoStart, OnMakes, TurnMakes, WasDark, WasOff, WasOn}
use Rattle.lvm_driver.proofs.passed.Going.{ends_history}
use Rattle.lvm_workers.specs.Draws.{draw_at}
use Rattle.lvm_load.specs.declared.client.Client.{Client}
use Rattle.lvm_load.specs.declared.totals.Kind.TheVariants as kind
use Rattle.lvm_load.specs.Requests.{ask_of, bytes_of, word_of}
use Rattle.lvm_load.specs.Totals.{entries_since, is_of}
use Rattle.lvm_load.specs.Weaving.{Draws, FinishesBy, NextClient, NoClient, NoTurn, NoWord, NoneDrawn, NoneOpen, OneDrawn, OneTurn, OneWord, PassesOn, Takes, TakesEach, TakesFor, TakesWhere, Turns, Unheard, Waits, Weaves, Weaving, might_have_landed}

-- a request begins by it
abbrev pub begins : Fact → Bool
begins (Begun r) = true
begins (Making lv blocks m) = false
begins (Made lv) = false
begins (Split from lv) = false
begins (Removing vol) = false
begins (Removed vol) = false
begins (Landed r how started got) = false
begins (Taken r) = false
begins Cut = false
begins (On moment) = false

-- so many requests have begun since
pub record Gains (n : ℕ) (old new : List Fact) : Type 0 where
  pub more : List Fact
  pub is : new ≡ old ++ more
  pub begun : count_by begins more ≡ n

pub gains_none : (facts : List Fact) → Gains 0 facts facts
gains_none facts = record { more = []; is = sym (append-nil facts); begun = refl }

gains_same : (old new : List Fact) → new ≡ old → Gains 0 old new
gains_same old new same = subst (λ (l : List Fact). Gains 0 old l) (sym same) (gains_none old)

pub gains_then : (a b : ℕ) (old mid new : List Fact) → Gains a old mid → Gains b mid new → Gains (a + b) old new
gains_then a b old mid new one two = record {
  more = one.more ++ two.more;
  is = two.is ∙ ap (λ (l : List Fact). l ++ two.more) one.is ∙ append_assoc old one.more two.more;
  begun = let sum : count_by begins (one.more ++ two.more) ≡ count_by begins one.more + count_by begins two.more = sum_by-append (λ (f : Fact). cond (begins f) 1 0) one.more two.more in
      let first = one.begun in let last = two.begun in omega (arith, sum, first, last);
}

-- by one entry
gains_one : (facts : List Fact) (f : Fact) (n : ℕ) → cond (begins f) 1 0 ≡ n → Gains n facts (facts ++ f ∷ [])
gains_one facts f n is = record {
  more = f ∷ [];
  is = refl;
  begun = let sum : count_by begins (f ∷ []) ≡ cond (begins f) 1 0 + 0 = sum_by-cons (λ (g : Fact). cond (begins g) 1 0) f [] in omega (arith, sum, is);
}

-- ---- by a turn

none_begin : (how : Outcome) (facts : List Fact) (os : List Open) → count_by begins (landings how facts os) ≡ 0
none_begin how facts [] = refl
none_begin how facts (o ∷ os) = by (is_waiting o) (none_begin how facts os)
  where
    by : (b : Bool) → count_by begins (landings how facts os) ≡ 0
        → count_by begins (if b then landed_fact facts o.request.id how (is_begun o.request.targets.items) ∷ landings how facts os else landings how facts os) ≡ 0
    by true rest =
        let f = landed_fact facts o.request.id how (is_begun o.request.targets.items) in
        let sum : count_by begins (f ∷ landings how facts os) ≡ 0 + count_by begins (landings how facts os) = sum_by-cons (λ (g : Fact). cond (begins g) 1 0) f (landings how facts os) in
        omega (arith, sum, rest)
    by false rest = rest

gains_ended : (how : Outcome) (facts : List Fact) (os : List Open) → Gains 0 facts (facts ++ landings how facts os)
gains_ended how facts os = record { more = landings how facts os; is = refl; begun = none_begin how facts os }

gains_cut : (log : Log) → Gains 0 log.facts (cut_log log).facts
gains_cut log = by (is_uncut log.facts)
  where
    by : (b : Bool) → Gains 0 log.facts (if b then with_fact log Cut else log).facts
    by true = gains_one log.facts Cut 0 refl
    by false = gains_none log.facts

same_facts : (old new : State) → new.core.history.facts ≡ old.core.history.facts → Gains 0 old.core.history.facts new.core.history.facts
same_facts old new same = gains_same old.core.history.facts new.core.history.facts same

event_gains : (it : Event) (old new : State) → Makes it old new → Gains 0 old.core.history.facts new.core.history.facts
event_gains (event.Land place how) old new made = subst (λ (l : List Fact). Gains 0 old.core.history.facts l) (sym (ap (λ (s : State). s.core.history.facts) made.is)) (gains_one old.core.history.facts _ 0 refl)
event_gains (event.Admit place) old new made = same_facts old new (ap (λ (s : State). s.core.history.facts) made.is)
event_gains (event.Pin place) old new made = same_facts old new (ap (λ (s : State). s.core.history.facts) made.is)
event_gains event.StartStatus old new made = same_facts old new (ap (λ (s : State). s.core.history.facts) made.is)
event_gains (event.StartNote place disk) old new made = same_facts old new (ap (λ (s : State). s.core.history.facts) made.is)
event_gains (event.StartData place target) old new made = same_facts old new (ap (λ (s : State). s.core.history.facts) made.is)
event_gains event.ReadCopy old new made = same_facts old new (ap (λ (s : State). s.core.history.facts) made.is)
event_gains event.WriteCopy old new made = same_facts old new (ap (λ (s : State). s.core.history.facts) made.is)

dark_gains : (old new : State) → Darkens old new → Gains 0 old.core.history.facts new.core.history.facts
dark_gains old new it =
    let cut : List Fact = (cut_log old.core.history).facts in
    subst (λ (l : List Fact). Gains 0 old.core.history.facts l) (sym (ap (λ (c : Core). c.history.facts) it.is))
    (gains_then 0 0 old.core.history.facts cut _ (gains_cut old.core.history) (gains_ended outcome.Dark cut old.core.requests))

off_gains : (old new : State) → GoesOff old new → Gains 0 old.core.history.facts new.core.history.facts
off_gains old new it = subst (λ (l : List Fact). Gains 0 old.core.history.facts l) (sym (ap (λ (s : State). s.core.history.facts) it.is)) (gains_ended outcome.Off old.core.history.facts old.core.requests)

finish_gains : (old new : State) (answer : Turned) → FinishMakes old new answer → Gains 0 old.core.history.facts new.core.history.facts
finish_gains old new turned.Moved made = same_facts old new (ap (λ (l : Log). l.facts) (ends_history old new made.0 made.1))
finish_gains old new turned.Idle (inl finds) = same_facts old new (ap (λ (c : Core). c.history.facts) finds.is)
finish_gains old new turned.Idle (inr nothing) = same_facts old new (ap (λ (s : State). s.core.history.facts) nothing.is)
finish_gains old new turned.Dark made = dark_gains old new made.1
finish_gains old new turned.Off made = off_gains old new made

on_gains : (old new : State) (answer : Turned) → OnMakes old new answer → Gains 0 old.core.history.facts new.core.history.facts
on_gains old new answer (Moves it first made is) = event_gains it old new made
on_gains old new answer (NoStart it first start dark is) = dark_gains old new dark
on_gains old new answer (Finishes none made) = finish_gains old new answer made

-- no request begins in a turn
pub turn_gains : (old new : State) (answer : Turned) → TurnMakes old new answer → Gains 0 old.core.history.facts new.core.history.facts
turn_gains old new answer (WasDark dark is same) = same_facts old new (ap (λ (s : State). s.core.history.facts) same)
turn_gains old new answer (WasOff off is same) = same_facts old new (ap (λ (s : State). s.core.history.facts) same)
turn_gains old new answer (WasOn on made) = on_gains old new answer made

-- ---- by an answer that is taken

same_core : (old new : Core) → new ≡ old → Gains 0 old.history.facts new.history.facts
same_core old new same = gains_same old.history.facts new.history.facts (ap (λ (c : Core). c.history.facts) same)

take_gains : (old new : Core) (client id : ℕ) (how : Answer) → TakeGives old new client id how → Gains 0 old.history.facts new.history.facts
take_gains old new client id how gives = by (position (is_asked client id) old.requests) gives
  where
    landed : (place : ℕ) (o : Open) (l : Option Outcome) → TakesLanded old new place o how l → Gains 0 old.history.facts new.history.facts
    landed place o None takes = same_core old new takes.1
    landed place o (Some so) takes = subst (λ (l : List Fact). Gains 0 old.history.facts l) (sym (ap (λ (c : Core). c.history.facts) takes.1)) (gains_one old.history.facts _ 0 refl)

    by : (p : Option ℕ) → MatchOption p ((how ≡ taken.Unknown) × (new ≡ old)) (λ (place : ℕ). TakeAt old new place how) → Gains 0 old.history.facts new.history.facts
    by None none = same_core old new none.1
    by (Some place) at = landed place at.0 at.0.landed at.2

for_gains : (k : ℕ) (old new : State) (clients after : List Client) → TakesFor k old new clients after → Gains 0 old.core.history.facts new.core.history.facts
for_gains k old new clients after (NoneOpen none same still) = same_core old.core new.core (ap (λ (s : State). s.core) same)
for_gains k old new clients after (Waits id is gives shelf still) = take_gains old.core new.core (k + 1) id taken.NotYet gives
for_gains k old new clients after (Takes c id how at is gives other shelf set) = take_gains old.core new.core (k + 1) id how gives

each_gains : (first : State) (clients : List Client) (n : ℕ) (new : State) (after : List Client) → TakesEach first clients n new after → Gains 0 first.core.history.facts new.core.history.facts
each_gains first clients n new after NoClient = gains_none first.core.history.facts
each_gains first clients n new after (NextClient {k = k} {old = old} {before = before} so_far takes) =
    gains_then 0 0 first.core.history.facts old.core.history.facts new.core.history.facts (each_gains first clients k old before so_far) (for_gains k old new before after takes)

where_gains : (b : Bool) (old new : State) (clients after : List Client) → TakesWhere b old new clients after → Gains 0 old.core.history.facts new.core.history.facts
where_gains true old new clients after takes = each_gains old clients (length clients) new after takes
where_gains false old new clients after still = same_core old.core new.core (ap (λ (s : State). s.core) still.0)

pub turns_gain : (old new : State) (clients after : List Client) (idle idle1 : ℕ) → Turns old new clients after idle idle1 → Gains 0 old.core.history.facts new.core.history.facts
turns_gain old new clients after idle idle1 made =
    gains_then 0 0 old.core.history.facts made.mid.core.history.facts new.core.history.facts (turn_gains old made.mid made.answer made.made) (where_gains (might_have_landed old made.mid made.answer) made.mid new clients after made.takes)

-- ---- by a request

-- one more, where it is taken
abbrev pub taken_one : Result ℕ AskFault → ℕ
taken_one (Ok id) = 1
taken_one (Err why) = 0

pub submit_gains : (old new : Core) (client : ℕ) (ask : Ask) (bytes : Option (List ℕ)) (answer : Result ℕ AskFault) → SubmitGives old new client ask bytes answer → Gains (taken_one answer) old.history.facts new.history.facts
submit_gains old new client ask bytes answer gives = by (ask_fault old ask) gives
  where
    by : (m : Option AskFault) → MatchOption m ((answer ≡ Ok (next_id old.history)) × (new ≡ submitted old client ask bytes)) (λ (why : AskFault). (answer ≡ Err why) × (new ≡ old)) → Gains (taken_one answer) old.history.facts new.history.facts
    by None took =
        subst (λ (r : Result ℕ AskFault). Gains (taken_one r) old.history.facts new.history.facts) (sym took.0)
        (subst (λ (l : List Fact). Gains 1 old.history.facts l) (sym (ap (λ (c : Core). c.history.facts) took.1)) (gains_one old.history.facts _ 1 refl))
    by (Some why) not = subst (λ (r : Result ℕ AskFault). Gains (taken_one r) old.history.facts new.history.facts) (sym not.0) (same_core old new not.1)

-- ---- by a workload

abbrev facts_in : Weaving → List Fact
facts_in w = w.session.core.history.facts

passes_gain : (first new : Weaving) → PassesOn first new → Gains 0 (facts_in first) (facts_in new)
passes_gain first new NoWord = gains_none (facts_in first)
passes_gain first new (OneWord {old = old} so_far busy) =
    gains_then 0 0 (facts_in first) (facts_in old) (facts_in new) (passes_gain first old so_far) (turns_gain old.session new.session old.clients new.clients old.idle new.idle busy.turns)

-- some requests have begun
abbrev Grows : Weaving → Weaving → Type 0
Grows old new = (n : ℕ) × Gains n (facts_in old) (facts_in new)

draws_gain : (lv blocks : ℕ) (first : Weaving) (n : ℕ) (more : Bool) (new : Weaving) → Draws lv blocks first n more new → Grows first new
draws_gain lv blocks first n more new NoneDrawn = (0, gains_none (facts_in first))
draws_gain lv blocks first n more new (OneDrawn {n = m} {old = old} before named k goes names asks rng idle) =
    let so_far = draws_gain lv blocks first m true old before in
    let passes = subst (λ (w : Weaving). Gains 0 (facts_in old) (facts_in w)) (sym names.is) (passes_gain old names.mid names.passes) in
    let begins = submit_gains named.session.core new.session.core (k + 1) (ask_of lv blocks (draw_at named.rng)) (bytes_of (word_of (k + 1) asks.client.offset) blocks (draw_at named.rng)) asks.answer asks.submits in (
      (so_far.0 + 0) + taken_one asks.answer,
      gains_then (so_far.0 + 0) (taken_one asks.answer) (facts_in first) (facts_in named) (facts_in new) (gains_then so_far.0 0 (facts_in first) (facts_in old) (facts_in named) so_far.1 passes) begins,
    )
draws_gain lv blocks first n more new (Unheard {old = old} before passes unheard) =
    let so_far = draws_gain lv blocks first n true old before in
    (so_far.0 + 0, gains_then so_far.0 0 (facts_in first) (facts_in old) (facts_in new) so_far.1 (passes_gain old new passes))

finishes_gain : (first : State) (clients : List Client) (idle : ℕ) (new : State) (after : List Client) (idle1 : ℕ) → FinishesBy first clients idle new after idle1 → Gains 0 first.core.history.facts new.core.history.facts
finishes_gain first clients idle new after idle1 NoTurn = gains_none first.core.history.facts
finishes_gain first clients idle new after idle1 (OneTurn {old = old} {before = before} {n = n} so_far any patient made) =
    gains_then 0 0 first.core.history.facts old.core.history.facts new.core.history.facts (finishes_gain first clients idle old before n so_far) (turns_gain old new before after n idle1 made)

-- the history tells what it told at first, and more
pub weave_gains : (lv blocks requests : ℕ) (first : Weaving) (last : State) (waits : Bool) → Weaves lv blocks requests first last waits → (n : ℕ) × Gains n (facts_in first) last.core.history.facts
weave_gains lv blocks requests first last waits weaves =
    let drawn = draws_gain lv blocks first weaves.draws.drawn weaves.draws.more weaves.mid weaves.draws.draws in
    (drawn.0 + 0, gains_then drawn.0 0 (facts_in first) (facts_in weaves.mid) last.core.history.facts drawn.1 (finishes_gain weaves.mid.session weaves.mid.clients weaves.mid.idle last weaves.after weaves.idle weaves.finishes.turns))

-- ---- the entries that tell of it

entry_begins : (place : ℕ) (f : Fact) → is_of kind.Begun (entry_at place f) ≡ begins f
entry_begins place (Begun r) = refl
entry_begins place (Making lv blocks m) = refl
entry_begins place (Made lv) = refl
entry_begins place (Split from lv) = refl
entry_begins place (Removing vol) = refl
entry_begins place (Removed vol) = refl
entry_begins place (Landed r outcome.Done started got) = refl
entry_begins place (Landed r outcome.Got started got) = refl
entry_begins place (Landed r outcome.Lost started got) = refl
entry_begins place (Landed r outcome.ReadFailed started got) = refl
entry_begins place (Landed r outcome.NoFresh started got) = refl
entry_begins place (Landed r outcome.Off started got) = refl
entry_begins place (Landed r outcome.Dark started got) = refl
entry_begins place (Taken r) = refl
entry_begins place Cut = refl
entry_begins place (On moment) = refl

begun_entries : (place : ℕ) (facts : List Fact) → count_by (is_of kind.Begun) (entries_from place facts) ≡ count_by begins facts
begun_entries place [] = refl
begun_entries place (f ∷ facts) =
    let e = entry_at place f in
    let rest = begun_entries (place_after place f) facts in
    let one : ◌≡◌ {A = ℕ} (cond (is_of kind.Begun e) 1 0) (cond (begins f) 1 0) = ap (λ (b : Bool). cond b 1 0) (entry_begins place f) in
    let left : count_by (is_of kind.Begun) (e ∷ entries_from (place_after place f) facts) ≡ cond (is_of kind.Begun e) 1 0 + count_by (is_of kind.Begun) (entries_from (place_after place f) facts) = sum_by-cons (λ x. cond (is_of kind.Begun x) 1 0) e (entries_from (place_after place f) facts) in
    let right : count_by begins (f ∷ facts) ≡ cond (begins f) 1 0 + count_by begins facts = sum_by-cons (λ (g : Fact). cond (begins g) 1 0) f facts in
    omega (arith, rest, one, left, right)

entries_behind : (place : ℕ) (past more : List Fact) → (p : ℕ) × (drop (length past) (entries_from place (past ++ more)) ≡ entries_from p more)
entries_behind place [] more = (place, refl)
entries_behind place (f ∷ past) more = entries_behind (place_after place f) past more

-- the totals count as many
pub begun_since : (n : ℕ) (old new : List Fact) → Gains n old new → count_by (is_of kind.Begun) (entries_since (length old) new) ≡ n
begun_since n old new gains =
    let behind = entries_behind 0 old gains.more in
    ap (λ (l : List Fact). count_by (is_of kind.Begun) (drop (length old) (entries_from 0 l))) gains.is ∙ ap (count_by (is_of kind.Begun)) behind.1 ∙ begun_entries behind.0 gains.more ∙ gains.begun

-- and as many behind what begins none
pub begun_still : (n : ℕ) (first last end : List Fact) → Gains n first last → Gains 0 last end → count_by (is_of kind.Begun) (entries_since (length first) end) ≡ count_by (is_of kind.Begun) (entries_since (length first) last)
begun_still n first last end one none =
    let now = begun_since (n + 0) first end (gains_then n 0 first last end one none) in
    let before = begun_since n first last one in
    omega (arith, now, before)
