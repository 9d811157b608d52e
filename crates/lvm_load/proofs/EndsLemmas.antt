-- Why requests aren't begun, or have no answer: by what holds between the steps of a workload.
use Rattle.std.proofs.Common.{◌≡◌, ◌≤◌, ◌+◌, ◌-◌, ◌&&◌, ◌||◌, ◌⊎◌, inl, inr, ⊎_elim, not, ℕ, suc, Bool, true, false, List, [], ◌∷◌, ◌++◌, length, Option, Some, None, refl, sym, ap, ◌∙◌, subst, append_assoc, arith}
use Rattle.std.specs.Prelude.{Result, Ok, Err, MatchOption, is_some}
use Rattle.std.specs.List.{list_any, AllByRecursion}
use Rattle.std.proofs.lemmas.Bool.{leb-true}
use Rattle.lvm_num.proofs.Booleans.{not_so}
use Rattle.rand_pcg.specs.Lcg.{Lcg}
use Rattle.lvm_disk.specs.Counts.{RoseBy}
use Rattle.lvm_disk.specs.Device.{Device}
use Rattle.lvm_disk.proofs.CountingLemmas.{rose_by_after, rose_by_more, rose_by_none}
use Rattle.lvm_vol.specs.Facts.{Fact}
use Rattle.lvm_vol.specs.Log.{next_id}
use Rattle.lvm_workers.specs.Draws.{draw_at}
use Rattle.lvm_path.specs.declared.ask.Ask.{Ask}
use Rattle.lvm_session.specs.declared.answers.AskFault.{AskFault}
use Rattle.lvm_session.specs.declared.answers.AskFault.TheVariants as fault
use Rattle.lvm_session.specs.declared.answers.Turned.{Turned}
use Rattle.lvm_session.specs.declared.answers.Turned.TheVariants as turned
use Rattle.lvm_session.specs.declared.open.Open.{Open}
use Rattle.lvm_session.specs.declared.open.Power.{Power}
use Rattle.lvm_session.specs.declared.open.Power.TheVariants as power
use Rattle.lvm_session.specs.Calls.{ask_fault, fault_by, fault_on, is_asked, submitted}
use Rattle.lvm_session.specs.Causes.{is_over}
use Rattle.lvm_session.specs.Judging.{is_waiting}
use Rattle.lvm_session.specs.Requests.{IsLanded}
use Rattle.lvm_session.specs.Sound.{IsSound}
use Rattle.lvm_session.specs.State.{Core, State}
use Rattle.lvm_session.specs.Turns.{Finds, FindsNothing, TurnMakes}
use Rattle.lvm_keeps_events.specs.Turning.{is_last}
use Rattle.lvm_driver.proofs.StandingLemmas.{none_waits_still}
use Rattle.lvm_keeps_events.specs.Telling.{CannotGoOn, TurnTells, power_by}
use Rattle.lvm_keeps_events.proofs.CountsLemmas.{turn_counts}
use Rattle.lvm_keeps_events.proofs.TellingLemmas.Telling.{turn_tells}
use Rattle.lvm_load.specs.declared.client.Client.{Client}
use Rattle.lvm_load.specs.declared.workload.Woven.{Woven}
use Rattle.lvm_load.specs.declared.totals.Totals.{Totals}
use Rattle.lvm_load.specs.Ends.{AreUnbegun, HasCauses, Over, Precedes, Refused, Waited}
use Rattle.lvm_load.specs.Requests.{ask_of, bytes_of, word_of}
use Rattle.lvm_load.specs.Totals.{entries_since, totals_of}
use Rattle.lvm_load.specs.Weaving.{AsksDrawn, Draws, FinishesBy, Names, NoTurn, NoWord, NoneDrawn, OneDrawn, OneTurn, OneWord, PassesOn, TakesWhere, Turns, Unheard, Weaves, Weaving, client_at, first_weaving, fresh_clients, goes_on, has_open, idle_after, is_unheard, might_have_landed, open_of}
use Rattle.lvm_load.proofs.FactsLemmas.{Gains, begun_since, gains_none, gains_then, submit_gains, taken_one, turns_gain}
use Rattle.lvm_load.specs.Waiting.{AreWaiting, waits_for}
use Rattle.lvm_load.proofs.WaitingLemmas.Waiting.{asks_wait, behind_waits, fresh_wait, left_by_each}

-- ---- lists of requests

-- one that waits for its client waits
some_waits : (client id : ℕ) (os : List Open) → list_any (waits_for client id) os ≡ true → list_any is_waiting os ≡ true
some_waits client id [] is = not_so is
some_waits client id (o ∷ os) is = by (is_asked client id o) (is_waiting o) (some_waits client id os) is
  where
    by : (a b : Bool) → (list_any (waits_for client id) os ≡ true → list_any is_waiting os ≡ true) → (a && b) || list_any (waits_for client id) os ≡ true → b || list_any is_waiting os ≡ true
    by a true rest is = refl
    by true false rest is = rest is
    by false false rest is = rest is

-- none does that has landed
none_waits : (os : List Open) → AllByRecursion IsLanded os → list_any is_waiting os ≡ false
none_waits [] all = refl
none_waits (o ∷ os) all = ap (λ b. b || list_any is_waiting os) all.0.landed ∙ none_waits os all.1

-- ---- clients

-- one has a request open
some_open : (clients : List Client) → list_any has_open clients ≡ true → (k : ℕ) × ((id : ℕ) × (open_of clients k ≡ Some id))
some_open [] any = absurd (cc any)
some_open (c ∷ clients) any = by c.request refl (some_open clients) any
  where
    by : (o : Option ℕ) → c.request ≡ o → (list_any has_open clients ≡ true → (k : ℕ) × ((id : ℕ) × (open_of clients k ≡ Some id))) → is_some o || list_any has_open clients ≡ true
        → (k : ℕ) × ((id : ℕ) × (open_of (c ∷ clients) k ≡ Some id))
    by (Some id) is rest any = (0, (id, is))
    by None is rest any = let later = rest any in (suc later.0, later.1)

-- ---- what holds between two steps

-- Each client that has a request open waits for it, and while the session goes on as many waits were counted as turns have moved nothing; once it is over none waits.
record Hears (first now : State) (clients : List Client) (idle : ℕ) : Type 0 where
  pub waiting : AreWaiting now.core clients
  pub later : first.device.counts.waits ≤ now.device.counts.waits
  pub on : is_over now.core.power ≡ false → RoseBy idle first.device.counts.waits now.device.counts.waits
  pub over : is_over now.core.power ≡ true → list_any is_waiting now.core.requests ≡ false

hears_first : (first : State) (n : ℕ) → IsSound first → Hears first first (fresh_clients n) 0
hears_first first n sound = record {
  waiting = fresh_wait first.core n;
  later = omega arith;
  on = λ goes. rose_by_none first.device.counts.waits;
  over = λ ended. none_waits first.core.requests (sound.over ended).landed;
}

-- a count that rose so often rose a million times
as_many : (before now n : ℕ) → 1000000 ≤ n → RoseBy n before now → RoseBy 1000000 before now
as_many before now n many rose = record { later = rose.later; risen = let risen = rose.risen in omega (arith, many, risen) }

-- a client that has one open makes some request wait
busy_waits : (core : Core) (clients : List Client) (k id : ℕ) → AreWaiting core clients → open_of clients k ≡ Some id → list_any is_waiting core.requests ≡ true
busy_waits core clients k id waiting has = some_waits (k + 1) id core.requests (waiting k id has)

-- so the session isn't over
not_over : (first now : State) (clients : List Client) (idle k id : ℕ) → Hears first now clients idle → open_of clients k ≡ Some id → is_over now.core.power ≡ false
not_over first now clients idle k id hears has = by (is_over now.core.power) refl
  where
    by : (b : Bool) → is_over now.core.power ≡ b → is_over now.core.power ≡ false
    by false is = is
    by true is = not_so (sym (hears.over is) ∙ busy_waits now.core clients k id hears.waiting has)

-- ---- what leads from one moment to another

-- So many requests have begun, no fewer waits were counted, and a session that is over stays so.
record Leads (n : ℕ) (old new : State) : Type 0 where
  pub gains : Gains n old.core.history.facts new.core.history.facts
  pub counted : old.device.counts.waits ≤ new.device.counts.waits
  pub over : is_over old.core.power ≡ true → is_over new.core.power ≡ true

leads_none : (s : State) → Leads 0 s s
leads_none s = record { gains = gains_none s.core.history.facts; counted = omega arith; over = λ ended. ended }

leads_then : (a b : ℕ) (old mid new : State) → Leads a old mid → Leads b mid new → Leads (a + b) old new
leads_then a b old mid new one two = record {
  gains = gains_then a b old.core.history.facts mid.core.history.facts new.core.history.facts one.gains two.gains;
  counted = let first = one.counted in let last = two.counted in omega (arith, first, last);
  over = λ ended. two.over (one.over ended);
}

-- with none more
no_more : (a : ℕ) (old new : State) → Leads (a + 0) old new → Leads a old new
no_more a old new leads = let same : a + 0 ≡ a = omega arith in subst (λ n. Leads n old new) same leads

precedes : (n : ℕ) (old new : State) → Leads n old new → Precedes old new
precedes n old new leads = (leads.gains.more, leads.gains.is)

follows : (a b c : State) → Precedes a b → Precedes b c → Precedes a c
follows a b c one two = (one.0 ++ two.0, two.1 ∙ ap (λ (l : List Fact). l ++ two.0) one.1 ∙ append_assoc a.core.history.facts one.0 two.0)

-- a cause is one later on
later_cause : (lv blocks n : ℕ) (start : Weaving) (old new : State) → Leads n old new → AreUnbegun lv blocks start old → AreUnbegun lv blocks start new
later_cause lv blocks n start old new leads (Refused it) =
    Refused (record { drawn = it.drawn; old = it.old; draws = it.draws; at = it.at; client = it.client; names = it.names; why = it.why; refused = it.refused; before = follows it.at.session old new it.before (precedes n old new leads) })
later_cause lv blocks n start old new leads (Over ended) = Over (leads.over ended)
later_cause lv blocks n start old new leads (Waited waited) = Waited (rose_by_after waited leads.counted)

-- ---- a turn

over_by : (answer : Turned) → is_over (power_by answer) ≡ is_last answer
over_by turned.Moved = refl
over_by turned.Idle = refl
over_by turned.Dark = refl
over_by turned.Off = refl

-- what taking leaves
record Behind (mid new : State) (after : List Client) : Type 0 where
  pub waiting : AreWaiting new.core after
  pub any : list_any is_waiting new.core.requests ≡ list_any is_waiting mid.core.requests
  pub power : new.core.power ≡ mid.core.power
  pub device : new.device ≡ mid.device

behind : (old mid new : State) (clients after : List Client) (answer : Turned) → AreWaiting old.core clients → TurnMakes old mid answer → (b : Bool) → might_have_landed old mid answer ≡ b → TakesWhere b mid new clients after → Behind mid new after
behind old mid new clients after answer waiting made true may takes =
    let each = left_by_each mid clients (length clients) new after takes in
    record { waiting = behind_waits old mid new clients after answer waiting made true may takes; any = each.any; power = each.power; device = each.device }
behind old mid new clients after answer waiting made false may still = record {
  waiting = behind_waits old mid new clients after answer waiting made false may still;
  any = ap (λ (s : State). list_any is_waiting s.core.requests) still.0;
  power = ap (λ (s : State). s.core.power) still.0;
  device = ap (λ (s : State). s.device) still.0;
}

module _ (first old new : State) (clients after : List Client) (idle idle1 : ℕ) (so_far : Hears first old clients idle) (some : list_any is_waiting old.core.requests ≡ true) (made : Turns old new clients after idle idle1) where
  tells : TurnTells old made.mid made.answer
  tells = turn_tells old made.mid made.sound made.answer made.made

  taken_so : Behind made.mid new after
  taken_so = behind old made.mid new clients after made.answer so_far.waiting made.made (might_have_landed old made.mid made.answer) refl made.takes

  counted : first.device.counts.waits ≤ made.mid.device.counts.waits
  counted = let le = so_far.later in let more = (turn_counts old made.mid made.answer made.made).waits in omega (arith, le, more)

  still_over : (answer : Turned) → made.answer ≡ answer → is_over new.core.power ≡ is_last answer
  still_over answer is = ap is_over (taken_so.power ∙ tells.power_is ∙ ap power_by is) ∙ over_by answer

  rose : (answer : Turned) → made.answer ≡ answer → is_over new.core.power ≡ false → RoseBy (idle_after answer idle) first.device.counts.waits made.mid.device.counts.waits
  rose turned.Moved is goes = rose_by_after (rose_by_none first.device.counts.waits) counted
  rose turned.Idle is goes = by (tells.idle.0 is) (tells.idle.0 is).still
    where
      by : CannotGoOn old made.mid → Finds old made.mid ⊎ FindsNothing old made.mid → RoseBy (idle + 1) first.device.counts.waits made.mid.device.counts.waits
      by still (inl finds) = rose_by_more (so_far.on (ap is_over still.on)) finds.waits.waits
      by still (inr nothing) = not_so (sym (none_waits_still old made.sound made.unmoved still.on nothing.votes still.none nothing.idle) ∙ some)
  rose turned.Dark is goes = not_so (sym goes ∙ still_over turned.Dark is)
  rose turned.Off is goes = not_so (sym goes ∙ still_over turned.Off is)

  -- a turn is made while a client waits
  turns_hear : Hears first new after idle1
  turns_hear = record {
    waiting = taken_so.waiting;
    later = subst (λ (d : Device). first.device.counts.waits ≤ d.counts.waits) (sym taken_so.device) counted;
    on = λ goes. subst (λ n. RoseBy n first.device.counts.waits new.device.counts.waits) (sym made.idle_is)
        (subst (λ (d : Device). RoseBy (idle_after made.answer idle) first.device.counts.waits d.counts.waits) (sym taken_so.device) (rose made.answer refl goes));
    over = λ ended. taken_so.any ∙ none_waits made.mid.core.requests (tells.over (sym (still_over made.answer refl) ∙ ended)).landed;
  }

  -- the session wasn't over
  was_on : (b : Bool) → is_over old.core.power ≡ b → is_over old.core.power ≡ false
  was_on false is = is
  was_on true is = not_so (sym (so_far.over is) ∙ some)

  turns_lead : Leads 0 old new
  turns_lead = record {
    gains = turns_gain old new clients after idle idle1 made;
    counted = subst (λ (d : Device). old.device.counts.waits ≤ d.counts.waits) (sym taken_so.device) (turn_counts old made.mid made.answer made.made).waits;
    over = λ ended. not_so (sym (was_on (is_over old.core.power) refl) ∙ ended);
  }

-- ---- a request is drawn

module _ (lv blocks k : ℕ) (g : Lcg) (first old new : State) (clients after : List Client) (idle : ℕ) (more : Bool) (so_far : Hears first old clients idle) (free : open_of clients k ≡ None) (asks : AsksDrawn lv blocks k g old new clients after more) where
  abbrev ask : Ask
  ask = ask_of lv blocks (draw_at g)

  abbrev bytes : Option (List ℕ)
  bytes = bytes_of (word_of (k + 1) asks.client.offset) blocks (draw_at g)

  waits : AreWaiting new.core after
  waits = asks_wait lv blocks k g old new clients after more so_far.waiting free asks

  -- nothing changes
  refused : (why : AskFault) → asks.answer ≡ Err why → new.core ≡ old.core → Hears first new after idle
  refused why is same = record {
    waiting = waits;
    later = subst (λ (d : Device). first.device.counts.waits ≤ d.counts.waits) (sym asks.shelf) so_far.later;
    on = λ goes. subst (λ (d : Device). RoseBy idle first.device.counts.waits d.counts.waits) (sym asks.shelf) (so_far.on (ap (λ (c : Core). is_over c.power) (sym same) ∙ goes));
    over = λ ended. ap (λ (c : Core). list_any is_waiting c.requests) same ∙ so_far.over (ap (λ (c : Core). is_over c.power) (sym same) ∙ ended);
  }

  -- one waits more
  taken : asks.answer ≡ Ok (next_id old.core.history) → new.core ≡ submitted old.core (k + 1) ask bytes → is_over old.core.power ≡ false → Hears first new after idle
  taken is same going = record {
    waiting = waits;
    later = subst (λ (d : Device). first.device.counts.waits ≤ d.counts.waits) (sym asks.shelf) so_far.later;
    on = λ goes. subst (λ (d : Device). RoseBy idle first.device.counts.waits d.counts.waits) (sym asks.shelf) (so_far.on going);
    over = λ ended. not_so (sym (ap (λ (c : Core). is_over c.power) same ∙ going) ∙ ended);
  }

  -- a client that has none open asks
  asks_hear : Hears first new after idle
  asks_hear = by old.core.power refl (fault_on old.core ask) asks.submits
    where
      by_fault : is_over old.core.power ≡ false → (m : Option AskFault) → MatchOption m ((asks.answer ≡ Ok (next_id old.core.history)) × (new.core ≡ submitted old.core (k + 1) ask bytes)) (λ (why : AskFault). (asks.answer ≡ Err why) × (new.core ≡ old.core)) → Hears first new after idle
      by_fault going None took = taken took.0 took.1 going
      by_fault going (Some why) not = refused why not.0 not.1

      by : (p : Power) → old.core.power ≡ p → (m : Option AskFault)
          → MatchOption (fault_by p m) ((asks.answer ≡ Ok (next_id old.core.history)) × (new.core ≡ submitted old.core (k + 1) ask bytes)) (λ (why : AskFault). (asks.answer ≡ Err why) × (new.core ≡ old.core)) → Hears first new after idle
      by power.On is m gives = by_fault (ap is_over is) m gives
      by power.Stuck is m gives = by_fault (ap is_over is) m gives
      by power.Dark is m not = refused fault.Dark not.0 not.1
      by power.Off is m not = refused fault.Off not.0 not.1

  -- why it isn't taken
  its_cause : (why : AskFault) → asks.answer ≡ Err why → ask_fault old.core ask ≡ Some why
  its_cause why is = by (ask_fault old.core ask) asks.submits
    where
      by : (m : Option AskFault) → MatchOption m ((asks.answer ≡ Ok (next_id old.core.history)) × (new.core ≡ submitted old.core (k + 1) ask bytes)) (λ (other : AskFault). (asks.answer ≡ Err other) × (new.core ≡ old.core)) → m ≡ Some why
      by None took = absurd (let e : ◌≡◌ {A = Result ℕ AskFault} (Err why) (Ok (next_id old.core.history)) = sym is ∙ took.0 in cc e)
      by (Some other) not = let e : ◌≡◌ {A = Result ℕ AskFault} (Err other) (Err why) = sym not.0 ∙ is in let same : other ≡ why = cc e in ap Some same

  same_power : (m : Option AskFault) → MatchOption m ((asks.answer ≡ Ok (next_id old.core.history)) × (new.core ≡ submitted old.core (k + 1) ask bytes)) (λ (why : AskFault). (asks.answer ≡ Err why) × (new.core ≡ old.core)) → new.core.power ≡ old.core.power
  same_power None took = ap (λ (c : Core). c.power) took.1
  same_power (Some why) not = ap (λ (c : Core). c.power) not.1

  asks_lead : (r : Result ℕ AskFault) → asks.answer ≡ r → Leads (taken_one r) old new
  asks_lead r is = record {
    gains = subst (λ (s : Result ℕ AskFault). Gains (taken_one s) old.core.history.facts new.core.history.facts) is (submit_gains old.core new.core (k + 1) ask bytes asks.answer asks.submits);
    counted = subst (λ (d : Device). old.device.counts.waits ≤ d.counts.waits) (sym asks.shelf) (omega arith);
    over = λ ended. ap is_over (same_power (ask_fault old.core ask) asks.submits) ∙ ended;
  }

-- ---- words, one after the other

passes_hear : (first : State) (start now : Weaving) → Hears first start.session start.clients start.idle → PassesOn start now → Hears first now.session now.clients now.idle
passes_hear first start now hears NoWord = hears
passes_hear first start now hears (OneWord {old = old} so_far passes) =
    let before = passes_hear first start old hears so_far in
    turns_hear first old.session now.session old.clients now.clients old.idle now.idle before
    (busy_waits old.session.core old.clients (client_at old) passes.id before.waiting passes.busy) passes.turns

passes_lead : (first : State) (start now : Weaving) → Hears first start.session start.clients start.idle → PassesOn start now → Leads 0 start.session now.session
passes_lead first start now hears NoWord = leads_none start.session
passes_lead first start now hears (OneWord {old = old} so_far passes) =
    let before = passes_hear first start old hears so_far in
    leads_then 0 0 start.session old.session now.session (passes_lead first start old hears so_far)
    (turns_lead first old.session now.session old.clients now.clients old.idle now.idle before (busy_waits old.session.core old.clients (client_at old) passes.id before.waiting passes.busy) passes.turns)

-- ---- what was drawn

-- So many requests have begun, each that was drawn, unless there is a cause.
record Drew (lv blocks n : ℕ) (start : Weaving) (more : Bool) (now : Weaving) : Type 0 where
  pub hears : Hears start.session now.session now.clients now.idle
  pub gained : ℕ
  pub leads : Leads gained start.session now.session
  pub few : gained ≤ n
  pub cause : ((gained ≡ n) × (more ≡ true)) ⊎ AreUnbegun lv blocks start now.session

-- nothing is heard
unheard_cause : (lv blocks : ℕ) (start now : Weaving) → Hears start.session now.session now.clients now.idle → is_unheard now.idle ≡ true → AreUnbegun lv blocks start now.session
unheard_cause lv blocks start now hears unheard = by (is_over now.session.core.power) refl
  where
    by : (b : Bool) → is_over now.session.core.power ≡ b → AreUnbegun lv blocks start now.session
    by true is = Over is
    by false is = Waited (as_many start.session.device.counts.waits now.session.device.counts.waits now.idle (leb-true 1000000 now.idle unheard) (hears.on is))

module _ (lv blocks : ℕ) (start old named new : Weaving) (n k : ℕ) (more : Bool) (draws : Draws lv blocks start n true old) (so_far : Drew lv blocks n start true old) (names : Names old named k)
    (asks : AsksDrawn lv blocks k named.rng named.session new.session named.clients new.clients more) (idle_is : new.idle ≡ named.idle) where
  hears_mid : Hears start.session names.mid.session names.mid.clients names.mid.idle
  hears_mid = passes_hear start.session old names.mid so_far.hears names.passes

  hears_named : Hears start.session named.session named.clients named.idle
  hears_named = subst (λ (w : Weaving). Hears start.session w.session w.clients w.idle) (sym names.is) hears_mid

  leads_named : Leads so_far.gained start.session named.session
  leads_named =
      let to_mid = leads_then so_far.gained 0 start.session old.session names.mid.session so_far.leads (passes_lead start.session old names.mid so_far.hears names.passes) in
      subst (λ (w : Weaving). Leads so_far.gained start.session w.session) (sym names.is) (no_more so_far.gained start.session names.mid.session to_mid)

  named_mid : Leads 0 old.session named.session
  named_mid = subst (λ (w : Weaving). Leads 0 old.session w.session) (sym names.is) (passes_lead start.session old names.mid so_far.hears names.passes)

  free : open_of named.clients k ≡ None
  free = subst (λ (w : Weaving). open_of w.clients k ≡ None) (sym names.is) names.free

  hears_new : Hears start.session new.session new.clients new.idle
  hears_new = subst (λ m. Hears start.session new.session new.clients m) (sym idle_is) (asks_hear lv blocks k named.rng start.session named.session new.session named.clients new.clients named.idle more hears_named free asks)

  its_lead : (r : Result ℕ AskFault) → asks.answer ≡ r → Leads (taken_one r) named.session new.session
  its_lead r is = asks_lead lv blocks k named.rng start.session named.session new.session named.clients new.clients named.idle more hears_named free asks r is

  drew_one : Drew lv blocks (n + 1) start more new
  drew_one = by asks.answer refl
    where
      by : (r : Result ℕ AskFault) → asks.answer ≡ r → Drew lv blocks (n + 1) start more new
      by (Ok id) is = record {
        hears = hears_new;
        gained = so_far.gained + 1;
        leads = leads_then so_far.gained 1 start.session named.session new.session leads_named (its_lead (Ok id) is);
        few = let few = so_far.few in omega (arith, few);
        cause = ⊎_elim
            (λ all. inl (let eq = all.0 in omega (arith, eq), asks.more_is ∙ ap goes_on is))
            (λ cause. inr (later_cause lv blocks 1 start named.session new.session (its_lead (Ok id) is) (later_cause lv blocks 0 start old.session named.session named_mid cause)))
            so_far.cause;
      }
      by (Err why) is = record {
        hears = hears_new;
        gained = so_far.gained;
        leads = no_more so_far.gained start.session new.session (leads_then so_far.gained 0 start.session named.session new.session leads_named (its_lead (Err why) is));
        few = let few = so_far.few in omega (arith, few);
        cause = inr (Refused (record {
          drawn = n;
          old = old;
          draws = draws;
          at = named;
          client = k;
          names = names;
          why = why;
          refused = its_cause lv blocks k named.rng start.session named.session new.session named.clients new.clients named.idle more hears_named free asks why is;
          before = precedes 0 named.session new.session (its_lead (Err why) is);
        }));
      }

drew : (lv blocks : ℕ) (start : Weaving) → Hears start.session start.session start.clients start.idle → (n : ℕ) (more : Bool) (now : Weaving) → Draws lv blocks start n more now → Drew lv blocks n start more now
drew lv blocks start hears n more now NoneDrawn = record { hears = hears; gained = 0; leads = leads_none start.session; few = omega arith; cause = inl (refl, refl) }
drew lv blocks start hears n more now (OneDrawn {n = m} {old = old} before named k goes names asks rng idle_is) =
    drew_one lv blocks start old named now m k goes before (drew lv blocks start hears m true old before) names asks idle_is
drew lv blocks start hears n more now (Unheard {old = old} before passes unheard) =
    let so_far = drew lv blocks start hears n true old before in
    let hears_now = passes_hear start.session old now so_far.hears passes in
    record {
      hears = hears_now;
      gained = so_far.gained;
      leads = no_more so_far.gained start.session now.session (leads_then so_far.gained 0 start.session old.session now.session so_far.leads (passes_lead start.session old now so_far.hears passes));
      few = so_far.few;
      cause = inr (unheard_cause lv blocks start now hears_now unheard);
    }

-- ---- turns until none is open

finish_hears : (first : State) (start : State) (clients : List Client) (idle : ℕ) → Hears first start clients idle → (new : State) (after : List Client) (idle1 : ℕ) → FinishesBy start clients idle new after idle1
    → Hears first new after idle1 × Leads 0 start new
finish_hears first start clients idle hears new after idle1 NoTurn = (hears, leads_none start)
finish_hears first start clients idle hears new after idle1 (OneTurn {old = old} {before = before} {n = n} so_far any patient made) =
    let earlier = finish_hears first start clients idle hears old before n so_far in
    let busy = some_open before any in
    let some = busy_waits old.core before busy.0 busy.1.0 earlier.0.waiting busy.1.1 in (
      turns_hear first old new before after n idle1 earlier.0 some made,
      leads_then 0 0 start old new earlier.1 (turns_lead first old new before after n idle1 earlier.0 some made),
    )

-- ---- the whole

module _ (lv blocks requests seed clients : ℕ) (first last : State) (woven : Woven) (sound : IsSound first) (weaves : Weaves lv blocks requests (first_weaving first clients seed) last woven.waiting)
    (told : woven.totals ≡ totals_of requests (entries_since (length first.core.history.facts) last.core.history.facts)) where
  all_drew : Drew lv blocks weaves.draws.drawn (first_weaving first clients seed) weaves.draws.more weaves.mid
  all_drew = drew lv blocks (first_weaving first clients seed) (hears_first first clients sound) weaves.draws.drawn weaves.draws.more weaves.mid weaves.draws.draws

  finished : Hears first last weaves.after weaves.idle × Leads 0 weaves.mid.session last
  finished = finish_hears first weaves.mid.session weaves.mid.clients weaves.mid.idle all_drew.hears last weaves.after weaves.idle weaves.finishes.turns

  leads : Leads (all_drew.gained + 0) first last
  leads = leads_then all_drew.gained 0 first weaves.mid.session last all_drew.leads finished.1

  begun : woven.totals.begun ≡ all_drew.gained + 0
  begun = ap (λ (t : Totals). t.begun) told ∙ begun_since (all_drew.gained + 0) first.core.history.facts last.core.history.facts leads.gains

  unbegun : woven.totals.unbegun ≡ requests - (all_drew.gained + 0)
  unbegun = ap (λ (t : Totals). t.unbegun) told ∙ ap (λ m. requests - m) (begun_since (all_drew.gained + 0) first.core.history.facts last.core.history.facts leads.gains)

  pub has_causes : HasCauses lv blocks requests (first_weaving first clients seed) last woven
  has_causes = record {
    all = let few = all_drew.few in let most = weaves.draws.most in omega (arith, begun, unbegun, few, most);
    unbegun = λ some. ⊎_elim
        (λ all. absurd (let eq = all.0 in let drawn = weaves.draws.all all.1 in omega (arith, some, unbegun, eq, drawn)))
        (λ cause. later_cause lv blocks 0 (first_weaving first clients seed) weaves.mid.session last finished.1 cause)
        all_drew.cause;
    waiting = λ waits. ⊎_elim
        (λ none. absurd (let e : true ≡ false = sym waits ∙ weaves.waits_is ∙ none in cc e))
        (λ unheard.
        let busy = some_open weaves.after (sym weaves.waits_is ∙ waits) in
        as_many first.device.counts.waits last.device.counts.waits weaves.idle (leb-true 1000000 weaves.idle unheard) (finished.0.on (not_over first last weaves.after weaves.idle busy.0 busy.1.0 finished.0 busy.1.1)))
        weaves.finishes.ends;
  }
