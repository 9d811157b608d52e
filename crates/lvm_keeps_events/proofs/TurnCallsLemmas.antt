-- A turn leaves the same requests in the table.
use Rattle.std.proofs.Common.{◌≡◌, ◌||◌, inl, inr, ℕ, Bool, true, false, List, [], ◌∷◌, map, length, Some, None, position, slice_get, slice_set, refl, sym, ◌∙◌, ap, if◌then◌else◌}
use Rattle.std.specs.Prelude.{cond, nat_lt}
use Rattle.std.specs.List.{list_any, position_or_len}
use Rattle.std.proofs.lemmas.Bool.{lt-ltb}
use Rattle.std.proofs.lemmas.List.{length-map}
use Rattle.lvm_num.proofs.Lists.{length_set, any_within}
use Rattle.lvm_vol.specs.declared.entry.Outcome.{Outcome}
use Rattle.lvm_vol.specs.declared.entry.Outcome.TheVariants as outcome
use Rattle.lvm_session.specs.declared.event.Event.{Event}
use Rattle.lvm_session.specs.declared.event.Event.TheVariants as event
use Rattle.lvm_session.specs.declared.flown.Owner.{Owner}
use Rattle.lvm_session.specs.declared.flown.Owner.TheVariants as owner
use Rattle.lvm_session.specs.declared.open.Open.{Open}
use Rattle.lvm_session.specs.declared.answers.Turned.{Turned}
use Rattle.lvm_session.specs.declared.answers.Turned.TheVariants as turned
use Rattle.lvm_session.specs.Calls.{is_asked}
use Rattle.lvm_session.specs.Dark.{ended_as}
use Rattle.lvm_session.specs.Ends.{Ends, Learns}
use Rattle.lvm_session.specs.Events.{landed_as}
use Rattle.lvm_session.specs.Judging.{is_running, is_waiting}
use Rattle.lvm_session.specs.State.{Core, State}
use Rattle.lvm_session.specs.Turns.{Darkens, FinishMakes, Finishes, Makes, Moves, NoStart, OnMakes, TurnMakes, WasDark, WasOff, WasOn}
use Rattle.lvm_keeps.proofs.Lists.{any_set}
use Rattle.lvm_keeps_events.proofs.TellingLemmas.Frames.{copy_stays, marked_stays, note_stays, status_stays}

pub some_position : {X : Type 0} (t : X → Bool) (xs : List X) → list_any t xs ≡ true → position t xs ≡ None → ⊥
some_position t xs some none =
    let less = any_within t xs some in
    let tested : nat_lt (position_or_len t xs) (length xs) ≡ true = lt-ltb (position_or_len t xs) (length xs) less in
    let found : position t xs ≡ Some (position_or_len t xs) = ap (λ b. cond b (Some (position_or_len t xs)) None) tested in
    absurd (cc (sym found ∙ none))

-- ---- the table

-- the same requests are in it
pub record SameTable (old new : Core) : Type 0 where
  pub asked : (client id : ℕ) → list_any (is_asked client id) new.requests ≡ list_any (is_asked client id) old.requests
  pub long : length new.requests ≡ length old.requests

-- they stay
stay : (old new : Core) → new.requests ≡ old.requests → SameTable old new
stay old new requests = record { asked = λ client id. ap (list_any (is_asked client id)) requests; long = ap length requests }

-- one is set that has the same number and client
set_one : (old new : Core) (k : ℕ) (x y : Open) → slice_get old.requests k ≡ Some x → new.requests ≡ slice_set old.requests k y → ((client id : ℕ) → is_asked client id y ≡ is_asked client id x) → SameTable old new
set_one old new k x y there set same = record {
  asked = λ client id. ap (list_any (is_asked client id)) set ∙ any_set (is_asked client id) old.requests k x y there (same client id);
  long = ap length set ∙ length_set old.requests k y;
}

-- all land
any_ended : (how : Outcome) (client id : ℕ) (os : List Open) → list_any (is_asked client id) (map (ended_as how) os) ≡ list_any (is_asked client id) os
any_ended how client id [] = refl
any_ended how client id (o ∷ os) = ap (λ b. b || list_any (is_asked client id) (map (ended_as how) os)) (by (is_waiting o)) ∙ ap (λ b. is_asked client id o || b) (any_ended how client id os)
  where
    by : (b : Bool) → is_asked client id (if b then landed_as how o else o) ≡ is_asked client id o
    by true = refl
    by false = refl

all_end : (how : Outcome) (old new : Core) → new.requests ≡ map (ended_as how) old.requests → SameTable old new
all_end how old new all = record {
  asked = λ client id. ap (list_any (is_asked client id)) all ∙ any_ended how client id old.requests;
  long = ap length all ∙ length-map old.requests (ended_as how);
}

-- ---- the events

event_table : (it : Event) (old new : State) → Makes it old new → SameTable old.core new.core
event_table (event.Land place how) old new made = set_one old.core new.core place made.request _ made.there (ap (λ (s : State). s.core.requests) made.is) (λ client id. refl)
event_table (event.Admit place) old new made = set_one old.core new.core place made.request _ made.there (ap (λ (s : State). s.core.requests) made.is) (λ client id. refl)
event_table (event.Pin place) old new made = set_one old.core new.core place made.request _ made.there (ap (λ (s : State). s.core.requests) made.is) (λ client id. refl)
event_table event.StartStatus old new made = stay old.core new.core (ap (λ (s : State). s.core.requests) made.is)
event_table (event.StartNote place disk) old new made = stay old.core new.core (ap (λ (s : State). s.core.requests) made.is)
event_table (event.StartData place target) old new made = set_one old.core new.core place made.its.request _ made.its.there (ap (λ (s : State). s.core.requests) made.is) (λ client id. refl)
event_table event.ReadCopy old new made = stay old.core new.core (ap (λ (s : State). s.core.requests) made.is)
event_table event.WriteCopy old new made = stay old.core new.core (ap (λ (s : State). s.core.requests) made.is)

end_table : (old new : State) (at : ℕ) → Ends old new at → SameTable old.core new.core
end_table old new at it = by it.row.owner it.learns
  where
    by : (who : Owner) → Learns who old.core at it.ok it.buf new.core → SameTable old.core new.core
    by (owner.Data id target) learns = set_one old.core new.core learns.place learns.its.request _ learns.its.there (marked_stays _ new.core _ learns.entails.is).requests (λ client id. refl)
    by (owner.Status disk) learns = stay old.core new.core (status_stays old.core new.core at disk it.ok it.buf learns).requests
    by (owner.Note disk) learns = stay old.core new.core (note_stays old.core new.core at disk it.ok it.buf learns).requests
    by owner.Copy learns = stay old.core new.core (copy_stays (is_running learns.copy) it.ok old.core new.core at learns.copy it.buf learns.learns).requests

-- ---- all of it

darkens : (old new : State) → Darkens old new → SameTable old.core new.core
darkens old new it = all_end outcome.Dark old.core new.core (ap (λ (c : Core). c.requests) it.is)

finish_table : (old new : State) (answer : Turned) → FinishMakes old new answer → SameTable old.core new.core
finish_table old new turned.Moved made = end_table old new made.0 made.1
finish_table old new turned.Idle (inl finds) = stay old.core new.core (ap (λ (c : Core). c.requests) finds.is)
finish_table old new turned.Idle (inr nothing) = stay old.core new.core (ap (λ (s : State). s.core.requests) nothing.is)
finish_table old new turned.Dark made = darkens old new made.1
finish_table old new turned.Off made = all_end outcome.Off old.core new.core (ap (λ (s : State). s.core.requests) made.is)

on_table : (old new : State) (answer : Turned) → OnMakes old new answer → SameTable old.core new.core
on_table old new answer (Moves it first made is) = event_table it old new made
on_table old new answer (NoStart it first start dark is) = darkens old new dark
on_table old new answer (Finishes none made) = finish_table old new answer made

pub turn_leaves_table : (old new : State) (answer : Turned) → TurnMakes old new answer → SameTable old.core new.core
turn_leaves_table old new answer (WasDark dark is same) = stay old.core new.core (ap (λ (s : State). s.core.requests) same)
turn_leaves_table old new answer (WasOff off is same) = stay old.core new.core (ap (λ (s : State). s.core.requests) same)
turn_leaves_table old new answer (WasOn on made) = on_table old new answer made
