-- A turn leaves the rooms as they are, and events of a turn leave the session on.
use Rattle.std.proofs.Common.{◌≡◌, inl, inr, ℕ, Bool, true, false, Option, Some, None, List, length, refl, ◌∙◌, ap}
use Rattle.std.specs.Option.{option_map_or}
use Rattle.lvm_num.specs.Buffer.{Buffer}
use Rattle.lvm_num.proofs.Lists.{length_set}
use Rattle.lvm_pbuf.specs.Out.{TakesLowest}
use Rattle.lvm_session.specs.declared.bringing.CopyEnd.{CopyEnd}
use Rattle.lvm_session.specs.declared.bringing.CopyEnd.TheVariants as ending
use Rattle.lvm_session.specs.declared.bringing.OpenCopy.{OpenCopy}
use Rattle.lvm_session.specs.declared.bringing.Step.{Step}
use Rattle.lvm_session.specs.declared.bringing.Step.TheVariants as step
use Rattle.lvm_session.specs.declared.event.Event.{Event}
use Rattle.lvm_session.specs.declared.event.Event.TheVariants as event
use Rattle.lvm_session.specs.declared.flown.Owner.{Owner}
use Rattle.lvm_session.specs.declared.flown.Owner.TheVariants as owner
use Rattle.lvm_session.specs.Bringing.{after_copy_end, copy_ends, hand_of, is_whole, with_back, with_end}
use Rattle.lvm_session.specs.Judging.{is_running}
use Rattle.lvm_session.specs.State.{Core, State}
use Rattle.lvm_session.specs.declared.answers.Turned.{Turned}
use Rattle.lvm_session.specs.declared.answers.Turned.TheVariants as turned
use Rattle.lvm_session.specs.Dark.{hand_of_copy}
use Rattle.lvm_session.specs.Ends.{DataLearns, Ends, CopyStepsOn, Learns, NoteLearns, StatusLearns, StepLearns, StepLeaves, given_back, with_copy, with_return, without_step}
use Rattle.lvm_session.specs.Marks.{Reviews}
use Rattle.lvm_session.specs.Turns.{Darkens, FinishMakes, Finishes, GoesOff, Makes, Moves, NoStart, OnMakes, TurnMakes, WasDark, WasOff, WasOn}
use Rattle.lvm_keeps_events.specs.Telling.{SameRoom}
use Rattle.lvm_keeps.proofs.DarkLemmas.Ending.{back_long, hands_long}

-- the room that a session has, and whether it goes on
pub record Framed (old new : Core) : Type 0 where
  pub most : new.most ≡ old.most
  pub long : length new.pool ≡ length old.pool
  pub power_is : new.power ≡ old.power

-- and its requests
pub record Stays (old new : Core) : Type 0 where
  pub framed : Framed old new
  pub requests : new.requests ≡ old.requests

same : (old new : Core) → new ≡ old → Framed old new
same old new is = record { most = ap (λ (c : Core). c.most) is; long = ap (λ (c : Core). length c.pool) is; power_is = ap (λ (c : Core). c.power) is }

-- ---- the end of the copy

with_end_framed : (core : Core) (how : Option CopyEnd) → Stays core (with_end core how)
with_end_framed core None = record { framed = same core core refl; requests = refl }
with_end_framed core (Some how) = by core.copy
  where
    by : (m : Option OpenCopy) → Stays core (option_map_or (λ (c : OpenCopy). after_copy_end core c how) m core)
    by None = record { framed = same core core refl; requests = refl }
    by (Some c) = record { framed = record { most = refl; long = back_long core.pool (hand_of c.step); power_is = refl }; requests = refl }

-- with another status
pub marked_stays : (old new : Core) (how : Option CopyEnd) → new ≡ record (with_end old how) { status = new.status } → Stays old new
marked_stays old new how is =
    let end = with_end_framed old how in
    record {
      framed = record { most = ap (λ (c : Core). c.most) is ∙ end.framed.most; long = ap (λ (c : Core). length c.pool) is ∙ end.framed.long; power_is = ap (λ (c : Core). c.power) is ∙ end.framed.power_is };
      requests = ap (λ (c : Core). c.requests) is ∙ end.requests;
    }

reviewed : (old new : Core) → Reviews old new → Stays old new
reviewed old new it = marked_stays old new (copy_ends old) it.is

-- ---- the ends of transfers

returned : (core : Core) (at : ℕ) (buf : Buffer) → length (with_return core at buf).pool ≡ length core.pool
returned core at buf = length_set core.pool buf.number false

-- what stays of a core whose buffer has come back
back_stays : {mid : Core} (old new : Core) → Stays mid new → mid.most ≡ old.most → length mid.pool ≡ length old.pool → mid.power ≡ old.power → mid.requests ≡ old.requests → Stays old new
back_stays old new it most long power_is requests =
    record { framed = record { most = it.framed.most ∙ most; long = it.framed.long ∙ long; power_is = it.framed.power_is ∙ power_is }; requests = it.requests ∙ requests }

at_once : (old new : Core) → new ≡ old → Stays old new
at_once old new is = record { framed = same old new is; requests = ap (λ (c : Core). c.requests) is }

data_framed : (old new : Core) (at id target : ℕ) (ok : Bool) (buf : Buffer) → DataLearns old at id target ok buf new → Framed old new
data_framed old new at id target ok buf it =
    let end = (marked_stays _ new _ it.entails.is).framed in
    record { most = end.most; long = end.long ∙ back_long old.pool (given_back it.its.request ok buf); power_is = end.power_is }

pub status_stays : (old new : Core) (at disk : ℕ) (ok : Bool) (buf : Buffer) → StatusLearns old at disk ok buf new → Stays old new
status_stays old new at disk ok buf it = back_stays old new (reviewed _ new it.reviews) refl (returned old at buf) refl refl

pub note_stays : (old new : Core) (at disk : ℕ) (ok : Bool) (buf : Buffer) → NoteLearns old at disk ok buf new → Stays old new
note_stays old new at disk true buf it = back_stays old new (at_once _ new it) refl (returned old at buf) refl refl
note_stays old new at disk false buf it = back_stays old new (reviewed _ new it.2) refl (returned old at buf) refl refl

goes_stays : (whole : Bool) (core next : Core) (c : OpenCopy) → CopyStepsOn whole core c next → Stays core next
goes_stays false core next c is =
    record { framed = record { most = ap (λ (x : Core). x.most) is; long = ap (λ (x : Core). length x.pool) is; power_is = ap (λ (x : Core). x.power) is }; requests = ap (λ (x : Core). x.requests) is }
goes_stays true core next c it =
    record { framed = record { most = ap (λ (x : Core). x.most) it.1; long = ap (λ (x : Core). length x.pool) it.1; power_is = ap (λ (x : Core). x.power) it.1 }; requests = ap (λ (x : Core). x.requests) it.1 }

step_stays : (at_step : Step) (ok : Bool) (old new : Core) (at : ℕ) (c : OpenCopy) (buf : Buffer) → StepLeaves at_step ok old at c buf new → Stays old new
step_stays step.Idle ok old new at c buf it = absurd it
step_stays (step.Read hand) ok old new at c buf it = absurd it
step_stays (step.Reading source) true old new at c buf is = back_stays old new (at_once _ new is) refl refl refl refl
step_stays (step.Reading source) false old new at c buf it = back_stays old new (reviewed _ new it.reviews) refl (returned old at buf) refl refl
step_stays step.Writing true old new at c buf it =
    let on = goes_stays (is_whole old it.next) (without_step (with_return old at buf) c) it.on it.next it.goes in
    back_stays old new (reviewed it.on new it.reviews) on.framed.most (on.framed.long ∙ returned old at buf) on.framed.power_is on.requests
step_stays step.Writing false old new at c buf it =
    back_stays old new (marked_stays (with_copy (with_return old at buf) (record c { step = step.Idle })) new (Some ending.SyncFailed) it.is) refl (returned old at buf) refl refl

pub copy_stays : (runs : Bool) (ok : Bool) (old new : Core) (at : ℕ) (c : OpenCopy) (buf : Buffer) → StepLearns runs old at c ok buf new → Stays old new
copy_stays true ok old new at c buf it = step_stays c.step ok old new at c buf it
copy_stays false ok old new at c buf is = back_stays old new (at_once _ new is) refl (returned old at buf) refl refl

learned_framed : (whose : Owner) (ok : Bool) (old new : Core) (at : ℕ) (buf : Buffer) → Learns whose old at ok buf new → Framed old new
learned_framed (owner.Data id target) ok old new at buf it = data_framed old new at id target ok buf it
learned_framed (owner.Status disk) ok old new at buf it = (status_stays old new at disk ok buf it).framed
learned_framed (owner.Note disk) ok old new at buf it = (note_stays old new at disk ok buf it).framed
learned_framed owner.Copy ok old new at buf it = (copy_stays (is_running it.copy) ok old new at it.copy buf it.learns).framed

pub end_framed : (old new : State) (at : ℕ) → Ends old new at → Framed old.core new.core
end_framed old new at it = learned_framed it.row.owner it.ok old.core new.core at it.buf it.learns

-- ---- the events

taken : (old new : List Bool) (number : ℕ) → TakesLowest old new number → length new ≡ length old
taken old new number it = ap length it.new_is ∙ length_set old number true

pub event_framed : (it : Event) (old new : State) → Makes it old new → Framed old.core new.core
event_framed (event.Land place how) old new made =
    record { most = ap (λ (s : State). s.core.most) made.is; long = ap (λ (s : State). length s.core.pool) made.is ∙ back_long old.core.pool made.request.got; power_is = ap (λ (s : State). s.core.power) made.is }
event_framed (event.Admit place) old new made =
    record { most = ap (λ (s : State). s.core.most) made.is; long = ap (λ (s : State). length s.core.pool) made.is; power_is = ap (λ (s : State). s.core.power) made.is }
event_framed (event.Pin place) old new made =
    record { most = ap (λ (s : State). s.core.most) made.is; long = ap (λ (s : State). length s.core.pool) made.is; power_is = ap (λ (s : State). s.core.power) made.is }
event_framed event.StartStatus old new made =
    record { most = ap (λ (s : State). s.core.most) made.is; long = taken old.core.pool new.core.pool made.flight.buf.number made.launches.taken; power_is = ap (λ (s : State). s.core.power) made.is }
event_framed (event.StartNote place disk) old new made =
    record { most = ap (λ (s : State). s.core.most) made.is; long = taken old.core.pool new.core.pool made.flight.buf.number made.launches.taken; power_is = ap (λ (s : State). s.core.power) made.is }
event_framed (event.StartData place target) old new made =
    record { most = ap (λ (s : State). s.core.most) made.is; long = taken old.core.pool new.core.pool made.flight.buf.number made.launches.taken; power_is = ap (λ (s : State). s.core.power) made.is }
event_framed event.ReadCopy old new made =
    record { most = ap (λ (s : State). s.core.most) made.is; long = taken old.core.pool new.core.pool made.flight.buf.number made.launches.taken; power_is = ap (λ (s : State). s.core.power) made.is }
event_framed event.WriteCopy old new made =
    record { most = ap (λ (s : State). s.core.most) made.is; long = ap (λ (s : State). length s.core.pool) made.is; power_is = ap (λ (s : State). s.core.power) made.is }

-- ---- a turn

room : (old new : Core) → Framed old new → SameRoom old new
room old new it = record { most = it.most; long = it.long }

pub dark_room : (old new : State) → Darkens old new → SameRoom old.core new.core
dark_room old new it = record {
  most = ap (λ (c : Core). c.most) it.is;
  long = ap (λ (c : Core). length c.pool) it.is ∙ hands_long old.core.requests (with_back old.core.pool (hand_of_copy old.core.copy)) ∙ back_long old.core.pool (hand_of_copy old.core.copy);
}

off_room : (old new : State) → GoesOff old new → SameRoom old.core new.core
off_room old new it = record {
  most = ap (λ (s : State). s.core.most) it.is;
  long = ap (λ (s : State). length s.core.pool) it.is ∙ hands_long old.core.requests (with_back old.core.pool (hand_of_copy old.core.copy)) ∙ back_long old.core.pool (hand_of_copy old.core.copy);
}

finish_room : (old new : State) (answer : Turned) → FinishMakes old new answer → SameRoom old.core new.core
finish_room old new turned.Moved made = room old.core new.core (end_framed old new made.0 made.1)
finish_room old new turned.Idle (inl finds) = room old.core new.core (same old.core new.core finds.is)
finish_room old new turned.Idle (inr nothing) = room old.core new.core (same old.core new.core (ap (λ (s : State). s.core) nothing.is))
finish_room old new turned.Dark made = dark_room old new made.1
finish_room old new turned.Off made = off_room old new made

on_room : (old new : State) (answer : Turned) → OnMakes old new answer → SameRoom old.core new.core
on_room old new answer (Moves it first made is) = room old.core new.core (event_framed it old new made)
on_room old new answer (NoStart it first start dark is) = dark_room old new dark
on_room old new answer (Finishes none made) = finish_room old new answer made

pub turn_room : (old new : State) (answer : Turned) → TurnMakes old new answer → SameRoom old.core new.core
turn_room old new answer (WasDark dark is same_is) = room old.core new.core (same old.core new.core (ap (λ (s : State). s.core) same_is))
turn_room old new answer (WasOff off is same_is) = room old.core new.core (same old.core new.core (ap (λ (s : State). s.core) same_is))
turn_room old new answer (WasOn on made) = on_room old new answer made
