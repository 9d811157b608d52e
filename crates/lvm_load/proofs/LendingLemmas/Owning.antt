-- Which entries of a history are a client's own that turns, requests and answers add.
use Rattle.std.proofs.Common.{◌≡◌, inl, inr, ℕ, Bool, true, false, List, [], ◌∷◌, ◌++◌, cond, refl, sym, ap, ◌∙◌, subst, append_assoc, if◌then◌else◌, eq-eqb, ne_eqb}
use Rattle.std.proofs.lemmas.List.{append-nil}
use Rattle.lvm_vol.specs.declared.entry.Outcome.{Outcome}
use Rattle.lvm_vol.specs.declared.entry.Outcome.TheVariants as outcome
use Rattle.lvm_vol.specs.Facts.{Request, Fact, Begun, Landed, Taken, Cut}
use Rattle.lvm_vol.specs.Fronts.{own}
use Rattle.lvm_vol.specs.Log.{Log, cut_log, is_uncut, landed_fact, with_fact}
use Rattle.lvm_vol.proofs.FrontsLemmas.{own-append}
use Rattle.lvm_path.specs.Targets.{is_begun}
use Rattle.lvm_session.specs.declared.answers.Turned.{Turned}
use Rattle.lvm_session.specs.declared.answers.Turned.TheVariants as turned
use Rattle.lvm_session.specs.declared.event.Event.{Event}
use Rattle.lvm_session.specs.declared.event.Event.TheVariants as event
use Rattle.lvm_session.specs.declared.open.Open.{Open}
use Rattle.lvm_session.specs.Dark.{landings}
use Rattle.lvm_session.specs.Judging.{is_waiting}
use Rattle.lvm_session.specs.State.{Core, State}
use Rattle.lvm_session.specs.Turns.{Darkens, FinishMakes, Finishes, GoesOff, Makes, Moves, NoStart, OnMakes, TurnMakes, WasDark, WasOff, WasOn}
use Rattle.lvm_driver.proofs.passed.Going.{ends_history}
use Rattle.lvm_workers.specs.Counting.{AreOfClients}

-- entries were added that are nobody's own
pub record AddsNone (old new : List Fact) : Type 0 where
  pub more : List Fact
  pub is : new ≡ old ++ more
  pub nobodys : (c : ℕ) → own c more ≡ []
  pub clients : (n : ℕ) → AreOfClients n more

pub none_added : (facts : List Fact) → AddsNone facts facts
none_added facts = record { more = []; is = sym (append-nil facts); nobodys = λ c. refl; clients = λ n. tt }

pub none_same : (old new : List Fact) → new ≡ old → AddsNone old new
none_same old new same = subst (λ (l : List Fact). AddsNone old l) (sym same) (none_added old)

pub of_both : (n : ℕ) (xs ys : List Fact) → AreOfClients n xs → AreOfClients n ys → AreOfClients n (xs ++ ys)
of_both n [] ys a b = b
of_both n (x ∷ xs) ys a b = (a.0, of_both n xs ys a.1 b)

none_then : (old mid new : List Fact) → AddsNone old mid → AddsNone mid new → AddsNone old new
none_then old mid new one two = record {
  more = one.more ++ two.more;
  is = two.is ∙ ap (λ (l : List Fact). l ++ two.more) one.is ∙ append_assoc old one.more two.more;
  nobodys = λ c. own-append c one.more two.more ∙ (λ i. one.nobodys c i ++ two.nobodys c i);
  clients = λ n. of_both n one.more two.more (one.clients n) (two.clients n);
}

landing_added : (facts : List Fact) (r : Request) (how : Outcome) (started : Bool) (got : List (List ℕ)) → AddsNone facts (facts ++ Landed r how started got ∷ [])
landing_added facts r how started got = record { more = Landed r how started got ∷ []; is = refl; nobodys = λ c. refl; clients = λ n. (tt, tt) }

nobodys_ended : (how : Outcome) (facts : List Fact) (os : List Open) → (c : ℕ) → own c (landings how facts os) ≡ []
nobodys_ended how facts [] c = refl
nobodys_ended how facts (o ∷ os) c = by (is_waiting o) (nobodys_ended how facts os c)
  where
    by : (b : Bool) → own c (landings how facts os) ≡ []
        → own c (if b then landed_fact facts o.request.id how (is_begun o.request.targets.items) ∷ landings how facts os else landings how facts os) ≡ []
    by true rest = rest
    by false rest = rest

clients_ended : (how : Outcome) (facts : List Fact) (os : List Open) → (n : ℕ) → AreOfClients n (landings how facts os)
clients_ended how facts [] n = tt
clients_ended how facts (o ∷ os) n = by (is_waiting o) (clients_ended how facts os n)
  where
    by : (b : Bool) → AreOfClients n (landings how facts os)
        → AreOfClients n (if b then landed_fact facts o.request.id how (is_begun o.request.targets.items) ∷ landings how facts os else landings how facts os)
    by true rest = (tt, rest)
    by false rest = rest

ended_added : (how : Outcome) (facts : List Fact) (os : List Open) → AddsNone facts (facts ++ landings how facts os)
ended_added how facts os = record { more = landings how facts os; is = refl; nobodys = nobodys_ended how facts os; clients = clients_ended how facts os }

cut_added : (log : Log) → AddsNone log.facts (cut_log log).facts
cut_added log = by (is_uncut log.facts)
  where
    by : (b : Bool) → AddsNone log.facts (if b then with_fact log Cut else log).facts
    by true = record { more = Cut ∷ []; is = refl; nobodys = λ c. refl; clients = λ n. (tt, tt) }
    by false = none_added log.facts

-- ---- by a turn

same_facts : (old new : State) → new.core.history.facts ≡ old.core.history.facts → AddsNone old.core.history.facts new.core.history.facts
same_facts old new same = none_same old.core.history.facts new.core.history.facts same

event_adds : (it : Event) (old new : State) → Makes it old new → AddsNone old.core.history.facts new.core.history.facts
event_adds (event.Land place how) old new made =
    subst (λ (l : List Fact). AddsNone old.core.history.facts l) (sym (ap (λ (s : State). s.core.history.facts) made.is)) (landing_added old.core.history.facts _ _ _ _)
event_adds (event.Admit place) old new made = same_facts old new (ap (λ (s : State). s.core.history.facts) made.is)
event_adds (event.Pin place) old new made = same_facts old new (ap (λ (s : State). s.core.history.facts) made.is)
event_adds event.StartStatus old new made = same_facts old new (ap (λ (s : State). s.core.history.facts) made.is)
event_adds (event.StartNote place disk) old new made = same_facts old new (ap (λ (s : State). s.core.history.facts) made.is)
event_adds (event.StartData place target) old new made = same_facts old new (ap (λ (s : State). s.core.history.facts) made.is)
event_adds event.ReadCopy old new made = same_facts old new (ap (λ (s : State). s.core.history.facts) made.is)
event_adds event.WriteCopy old new made = same_facts old new (ap (λ (s : State). s.core.history.facts) made.is)

dark_adds : (old new : State) → Darkens old new → AddsNone old.core.history.facts new.core.history.facts
dark_adds old new it =
    let cut : List Fact = (cut_log old.core.history).facts in
    subst (λ (l : List Fact). AddsNone old.core.history.facts l) (sym (ap (λ (c : Core). c.history.facts) it.is))
    (none_then old.core.history.facts cut _ (cut_added old.core.history) (ended_added outcome.Dark cut old.core.requests))

off_adds : (old new : State) → GoesOff old new → AddsNone old.core.history.facts new.core.history.facts
off_adds old new it = subst (λ (l : List Fact). AddsNone old.core.history.facts l) (sym (ap (λ (s : State). s.core.history.facts) it.is)) (ended_added outcome.Off old.core.history.facts old.core.requests)

finish_adds : (old new : State) (answer : Turned) → FinishMakes old new answer → AddsNone old.core.history.facts new.core.history.facts
finish_adds old new turned.Moved made = same_facts old new (ap (λ (l : Log). l.facts) (ends_history old new made.0 made.1))
finish_adds old new turned.Idle (inl finds) = same_facts old new (ap (λ (c : Core). c.history.facts) finds.is)
finish_adds old new turned.Idle (inr nothing) = same_facts old new (ap (λ (s : State). s.core.history.facts) nothing.is)
finish_adds old new turned.Dark made = dark_adds old new made.1
finish_adds old new turned.Off made = off_adds old new made

on_adds : (old new : State) (answer : Turned) → OnMakes old new answer → AddsNone old.core.history.facts new.core.history.facts
on_adds old new answer (Moves it first made is) = event_adds it old new made
on_adds old new answer (NoStart it first start dark is) = dark_adds old new dark
on_adds old new answer (Finishes none made) = finish_adds old new answer made

-- in a turn nobody begins a request or takes an answer
pub turn_adds : (old new : State) (answer : Turned) → TurnMakes old new answer → AddsNone old.core.history.facts new.core.history.facts
turn_adds old new answer (WasDark dark is same) = same_facts old new (ap (λ (s : State). s.core.history.facts) same)
turn_adds old new answer (WasOff off is same) = same_facts old new (ap (λ (s : State). s.core.history.facts) same)
turn_adds old new answer (WasOn on made) = on_adds old new answer made

-- ---- entries of one client

pub own_begun : (c : ℕ) (r : Request) → r.client ≡ c → own c (Begun r ∷ []) ≡ Begun r ∷ []
own_begun c r same = ap (λ b. cond b (Begun r ∷ []) []) (eq-eqb r.client c same)

pub others_begun : (c : ℕ) (r : Request) → (r.client ≡ c → ⊥) → own c (Begun r ∷ []) ≡ []
others_begun c r apart = ap (λ b. cond b (Begun r ∷ []) []) (ne_eqb r.client c apart)

pub own_taken : (c : ℕ) (r : Request) → r.client ≡ c → own c (Taken r ∷ []) ≡ Taken r ∷ []
own_taken c r same = ap (λ b. cond b (Taken r ∷ []) []) (eq-eqb r.client c same)

pub others_taken : (c : ℕ) (r : Request) → (r.client ≡ c → ⊥) → own c (Taken r ∷ []) ≡ []
others_taken c r apart = ap (λ b. cond b (Taken r ∷ []) []) (ne_eqb r.client c apart)
