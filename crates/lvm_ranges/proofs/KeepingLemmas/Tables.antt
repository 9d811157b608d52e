-- A turn keeps the requests of the table.
use Rattle.std.proofs.Common.{◌≡◌, ◌==◌, ⊎_elim, inl, inr, ℕ, Bool, true, false, List, [], ◌∷◌, ◌++◌, Option, Some, refl, sym, ◌∙◌, ap, subst, if◌then◌else◌}
use Rattle.std.specs.Prelude.{unwrap_or}
use Rattle.std.specs.List.{list_any}
use Rattle.std.proofs.lemmas.Bool.{eqb-true}
use Rattle.lvm_num.proofs.Booleans.{not_so}
use Rattle.lvm_num.proofs.Lists.{all_at}
use Rattle.lvm_vol.specs.declared.entry.Outcome.{Outcome}
use Rattle.lvm_vol.specs.declared.entry.Outcome.TheVariants as outcome
use Rattle.lvm_vol.specs.Facts.{Cut, Fact, Landed, Request, begun}
use Rattle.lvm_vol.specs.Log.{Log, asked, cut_log, is_uncut, no_request, request_of, takes_id, with_fact}
use Rattle.lvm_vol.proofs.LogLemmas.{find_stands}
use Rattle.lvm_path.specs.declared.facts.Next.TheVariants as next
use Rattle.lvm_path.specs.Asks.{count_of, is_write}
use Rattle.lvm_path.specs.Targets.{is_begun}
use Rattle.lvm_session.specs.declared.event.Event.{Event}
use Rattle.lvm_session.specs.declared.event.Event.TheVariants as event
use Rattle.lvm_session.specs.declared.open.Open.{Open}
use Rattle.lvm_session.specs.declared.open.Power.TheVariants as power
use Rattle.lvm_session.specs.declared.answers.Turned.{Turned}
use Rattle.lvm_session.specs.declared.answers.Turned.TheVariants as turned
use Rattle.lvm_session.specs.Events.{Lands, got_blocks}
use Rattle.lvm_session.specs.Judging.{next_for}
use Rattle.lvm_session.specs.Requests.{IsOpenOne}
use Rattle.lvm_session.specs.Sound.{IsAsked, IsSound, outcome_in}
use Rattle.lvm_session.specs.State.{Core, State}
use Rattle.lvm_session.specs.Turns.{Darkens, FinishMakes, Finishes, GoesOff, Makes, Moves, NoStart, OnMakes, TurnMakes, WasDark, WasOff, WasOn}
use Rattle.lvm_keeps.proofs.SoundLemmas.Telling.{asked_still}
use Rattle.lvm_driver.proofs.passed.Going.{ends_history}
use Rattle.lvm_driver.proofs.passed.KeepsEvents.{turn_leaves_table}
use Rattle.lvm_ranges.specs.Keeping.{KeepsTable, TurnKeepsTable}
use Rattle.lvm_ranges.proofs.AsksLemmas.{done_writes}
use Rattle.lvm_ranges.proofs.KeepingLemmas.Growing.{Grows, SameTakings, answered_on, grows_ended, grows_none, grows_quiet, grows_same, grows_then, keeps_both, keeps_none, keeps_requests, outcome_last, takings_ended, takings_push, takings_same}

-- ---- the history

same_facts : (old new : State) → new.core.history.facts ≡ old.core.history.facts → Grows old.core.history.facts new.core.history.facts
same_facts old new same = grows_same old.core.history.facts new.core.history.facts same

-- a request lands, and only a write as Done
land_grows : (old new : State) (place : ℕ) (how : Outcome) → IsSound old → old.core.power ≡ power.On → Lands old new place how → Grows old.core.history.facts new.core.history.facts
land_grows old new place how sound on it = subst (λ (l : List Fact). Grows facts l) (sym (ap (λ (s : State). s.core.history.facts) it.is)) grows
  where
    facts : List Fact
    facts = old.core.history.facts

    o : Open
    o = it.request

    entry : Fact
    entry = Landed (request_of facts o.request.id) how (is_begun o.request.targets.items) (got_blocks (count_of o.request.ask) o.got)

    its : IsAsked facts o
    its = all_at (IsAsked facts) old.core.requests place o sound.told.requests it.there

    own : (request_of facts o.request.id).id ≡ o.request.id
    own = ap (λ (m : Option Request). (unwrap_or m no_request).id) its.told ∙ (find_stands o.request.id (begun facts) its.request its.told).1

    never : (id : ℕ) (r : Request) → asked facts id ≡ Some r → r.write ≡ false → ((request_of facts o.request.id).id == id) ≡ true → ◌≡◌ {A = Option Outcome} (Some how) (Some outcome.Done) → outcome_in facts id ≡ Some outcome.Done
    never id r told read same done =
        let is_done : how ≡ outcome.Done = cc done in
        let same_id : o.request.id ≡ id = sym own ∙ eqb-true (request_of facts o.request.id).id id same in
        let same_told : Some its.request ≡ Some r = sym its.told ∙ ap (asked facts) same_id ∙ told in
        let is_its : its.request ≡ r = cc same_told in
        let lands : next_for old.core o ≡ next.Land outcome.Done = it.lands ∙ ap next.Land is_done in
        let writes : is_write o.request.ask ≡ true = done_writes old.core o (all_at (IsOpenOne old.core) old.core.requests place o (sound.on on).going.requests it.there) lands in
        not_so (sym read ∙ ap (λ (q : Request). q.write) (sym is_its) ∙ its.write ∙ writes)

    grows : Grows facts (facts ++ entry ∷ [])
    grows = record {
      more = entry ∷ [];
      is = refl;
      told = asked_still facts entry refl;
      done = λ id r told read e. ⊎_elim (λ was. was) (λ last. never id r told read last.0 last.1) (outcome_last facts entry id outcome.Done e);
    }

event_grows : (it : Event) (old new : State) → IsSound old → old.core.power ≡ power.On → Makes it old new → Grows old.core.history.facts new.core.history.facts
event_grows (event.Land place how) old new sound on made = land_grows old new place how sound on made
event_grows (event.Admit place) old new sound on made = same_facts old new (ap (λ (s : State). s.core.history.facts) made.is)
event_grows (event.Pin place) old new sound on made = same_facts old new (ap (λ (s : State). s.core.history.facts) made.is)
event_grows event.StartStatus old new sound on made = same_facts old new (ap (λ (s : State). s.core.history.facts) made.is)
event_grows (event.StartNote place disk) old new sound on made = same_facts old new (ap (λ (s : State). s.core.history.facts) made.is)
event_grows (event.StartData place target) old new sound on made = same_facts old new (ap (λ (s : State). s.core.history.facts) made.is)
event_grows event.ReadCopy old new sound on made = same_facts old new (ap (λ (s : State). s.core.history.facts) made.is)
event_grows event.WriteCopy old new sound on made = same_facts old new (ap (λ (s : State). s.core.history.facts) made.is)

cut_grows : (log : Log) → Grows log.facts (cut_log log).facts
cut_grows log = by (is_uncut log.facts)
  where
    by : (b : Bool) → Grows log.facts (if b then with_fact log Cut else log).facts
    by true = grows_quiet log.facts Cut refl (λ id. refl)
    by false = grows_none log.facts

never_dark : outcome.Dark ≡ outcome.Done → ⊥
never_dark e = absurd (cc e)

never_off : outcome.Off ≡ outcome.Done → ⊥
never_off e = absurd (cc e)

dark_grows : (old new : State) → Darkens old new → Grows old.core.history.facts new.core.history.facts
dark_grows old new it =
    let cut : List Fact = (cut_log old.core.history).facts in
    subst (λ (l : List Fact). Grows old.core.history.facts l) (sym (ap (λ (c : Core). c.history.facts) it.is))
    (grows_then old.core.history.facts cut _ (cut_grows old.core.history) (grows_ended outcome.Dark never_dark cut old.core.requests))

off_grows : (old new : State) → GoesOff old new → Grows old.core.history.facts new.core.history.facts
off_grows old new it = subst (λ (l : List Fact). Grows old.core.history.facts l) (sym (ap (λ (s : State). s.core.history.facts) it.is)) (grows_ended outcome.Off never_off old.core.history.facts old.core.requests)

-- ---- and no answer is taken

same_takings : (old new : State) → new.core.history.facts ≡ old.core.history.facts → SameTakings old.core.history.facts new.core.history.facts
same_takings old new same = takings_same old.core.history.facts new.core.history.facts same

event_takings : (it : Event) (old new : State) → Makes it old new → SameTakings old.core.history.facts new.core.history.facts
event_takings (event.Land place how) old new made = subst (λ (l : List Fact). SameTakings old.core.history.facts l) (sym (ap (λ (s : State). s.core.history.facts) made.is)) (takings_push old.core.history.facts _ (λ id. refl))
event_takings (event.Admit place) old new made = same_takings old new (ap (λ (s : State). s.core.history.facts) made.is)
event_takings (event.Pin place) old new made = same_takings old new (ap (λ (s : State). s.core.history.facts) made.is)
event_takings event.StartStatus old new made = same_takings old new (ap (λ (s : State). s.core.history.facts) made.is)
event_takings (event.StartNote place disk) old new made = same_takings old new (ap (λ (s : State). s.core.history.facts) made.is)
event_takings (event.StartData place target) old new made = same_takings old new (ap (λ (s : State). s.core.history.facts) made.is)
event_takings event.ReadCopy old new made = same_takings old new (ap (λ (s : State). s.core.history.facts) made.is)
event_takings event.WriteCopy old new made = same_takings old new (ap (λ (s : State). s.core.history.facts) made.is)

cut_takings : (log : Log) → SameTakings log.facts (cut_log log).facts
cut_takings log = by (is_uncut log.facts)
  where
    by : (b : Bool) → SameTakings log.facts (if b then with_fact log Cut else log).facts
    by true = takings_push log.facts Cut (λ id. refl)
    by false = λ id. refl

dark_takings : (old new : State) → Darkens old new → SameTakings old.core.history.facts new.core.history.facts
dark_takings old new it id =
    let cut : List Fact = (cut_log old.core.history).facts in
    ap (λ (c : Core). list_any (takes_id id) c.history.facts) it.is ∙ takings_ended outcome.Dark cut cut old.core.requests id ∙ cut_takings old.core.history id

off_takings : (old new : State) → GoesOff old new → SameTakings old.core.history.facts new.core.history.facts
off_takings old new it id = ap (λ (s : State). list_any (takes_id id) s.core.history.facts) it.is ∙ takings_ended outcome.Off old.core.history.facts old.core.history.facts old.core.requests id

-- ---- all of it

-- the history has grown, and no answer is taken
record Turns (old new : State) : Type 0 where
  pub grows : Grows old.core.history.facts new.core.history.facts
  pub takings : SameTakings old.core.history.facts new.core.history.facts

at_once : (old new : State) → new.core ≡ old.core → Turns old new
at_once old new same = record { grows = same_facts old new (ap (λ (c : Core). c.history.facts) same); takings = same_takings old new (ap (λ (c : Core). c.history.facts) same) }

darkens : (old new : State) → Darkens old new → Turns old new
darkens old new it = record { grows = dark_grows old new it; takings = dark_takings old new it }

finish_turns : (old new : State) (answer : Turned) → FinishMakes old new answer → Turns old new
finish_turns old new turned.Moved made =
    let same : new.core.history.facts ≡ old.core.history.facts = ap (λ (l : Log). l.facts) (ends_history old new made.0 made.1) in
    record { grows = same_facts old new same; takings = same_takings old new same }
finish_turns old new turned.Idle (inl finds) = at_once old new finds.is
finish_turns old new turned.Idle (inr nothing) = at_once old new (ap (λ (s : State). s.core) nothing.is)
finish_turns old new turned.Dark made = darkens old new made.1
finish_turns old new turned.Off made = record { grows = off_grows old new made; takings = off_takings old new made }

on_turns : (old new : State) (answer : Turned) → IsSound old → old.core.power ≡ power.On → OnMakes old new answer → Turns old new
on_turns old new answer sound on (Moves it first made is) = record { grows = event_grows it old new sound on made; takings = event_takings it old new made }
on_turns old new answer sound on (NoStart it first start dark is) = darkens old new dark
on_turns old new answer sound on (Finishes none made) = finish_turns old new answer made

turns : (old new : State) (answer : Turned) → IsSound old → TurnMakes old new answer → Turns old new
turns old new answer sound (WasDark dark is same) = at_once old new (ap (λ (s : State). s.core) same)
turns old new answer sound (WasOff off is same) = at_once old new (ap (λ (s : State). s.core) same)
turns old new answer sound (WasOn on made) = on_turns old new answer sound on made

pub turn_table : TurnKeepsTable
turn_table old new answer sound made =
    let table = turn_leaves_table old new answer made in
    let both = turns old new answer sound made in
    record {
      asked = table.asked;
      long = table.long;
      answered = answered_on old.core.history.facts new.core.history.facts both.grows both.takings;
      requests = keeps_requests old.core new.core sound.told.ordered both.grows;
    }

pub table_same : (core : Core) → KeepsTable core core
table_same core = record { asked = λ client id. refl; long = refl; answered = λ client id is. is; requests = keeps_none core }

pub table_then : (old mid new : Core) → KeepsTable old mid → KeepsTable mid new → KeepsTable old new
table_then old mid new one two = record {
  asked = λ client id. two.asked client id ∙ one.asked client id;
  long = two.long ∙ one.long;
  answered = λ client id is. two.answered client id (one.answered client id is);
  requests = keeps_both old mid new one.requests two.requests;
}
