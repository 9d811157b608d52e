-- What a session was given stays, and no turn opens a copy.
use Rattle.std.proofs.Common.{◌≡◌, inl, inr, ℕ, Bool, true, false, [], Option, Some, None, refl, sym, ap, ◌∙◌}
use Rattle.std.specs.Prelude.{if◌then◌else◌}
use Rattle.std.specs.Option.{option_map, option_map_or}
use Rattle.lvm_num.specs.Buffer.{Buffer}
use Rattle.lvm_num.specs.declared.descriptor.Descriptor.{Descriptor}
use Rattle.lvm_vol.specs.Facts.{Cut}
use Rattle.lvm_vol.specs.Log.{Log, cut_log, is_uncut, with_fact}
use Rattle.lvm_session.specs.declared.answers.Turned.{Turned}
use Rattle.lvm_session.specs.declared.answers.Turned.TheVariants as turned
use Rattle.lvm_session.specs.declared.bringing.CopyEnd.{CopyEnd}
use Rattle.lvm_session.specs.declared.bringing.OpenCopy.{OpenCopy}
use Rattle.lvm_session.specs.declared.event.Event.{Event}
use Rattle.lvm_session.specs.declared.event.Event.TheVariants as event
use Rattle.lvm_session.specs.declared.flown.Owner.{Owner}
use Rattle.lvm_session.specs.declared.flown.Owner.TheVariants as owner
use Rattle.lvm_session.specs.declared.open.Power.TheVariants as power
use Rattle.lvm_session.specs.declared.origin.Origin.{Origin}
use Rattle.lvm_session.specs.Bringing.{after_copy_end, copy_ends, with_end}
use Rattle.lvm_session.specs.Dark.{all_dark, ended_copy}
use Rattle.lvm_session.specs.Ends.{Ends, Learns, NoteLearns}
use Rattle.lvm_session.specs.Marks.{Reviews}
use Rattle.lvm_session.specs.State.{Core, State}
use Rattle.lvm_session.specs.Turns.{Darkens, FinishMakes, Finishes, Makes, Moves, NoStart, OnMakes, TurnMakes, WasDark, WasOff, WasOn}
use Rattle.lvm_keeps_events.proofs.TellingLemmas.Frames.{end_framed, event_framed}
use Rattle.lvm_tie.proofs.SessionEndsLemmas.Grounds.{Ground, learned_same}
use Rattle.lvm_tie.proofs.SessionEndsLemmas.Histories.{ends_history}
use Rattle.lvm_tie.specs.Running.{GoesOnOrEnds}

-- ---- no copy is opened

abbrev NoneOpens : Core → Core → Type 0
NoneOpens old new = old.copy ≡ None → new.copy ≡ None

end_none : (core : Core) (how : Option CopyEnd) → NoneOpens core (with_end core how)
end_none core None none = none
end_none core (Some how) none = by core.copy none
  where
    by : (m : Option OpenCopy) → m ≡ None → (option_map_or (λ (c : OpenCopy). after_copy_end core c how) m core).copy ≡ None
    by None is = none
    by (Some c) is = absurd (cc is)

reviewed_none : (old new : Core) → Reviews old new → NoneOpens old new
reviewed_none old new it none = ap (λ (c : Core). c.copy) it.is ∙ end_none old (copy_ends old) none

note_none : (old new : Core) (at disk : ℕ) (ok : Bool) (buf : Buffer) → NoteLearns old at disk ok buf new → NoneOpens old new
note_none old new at disk true buf it none = ap (λ (c : Core). c.copy) it ∙ none
note_none old new at disk false buf it none = reviewed_none _ new it.2 none

learned_none : (whose : Owner) (ok : Bool) (old new : Core) (at : ℕ) (buf : Buffer) → Learns whose old at ok buf new → NoneOpens old new
learned_none (owner.Data id target) ok old new at buf it none = ap (λ (c : Core). c.copy) it.entails.is ∙ end_none _ _ none
learned_none (owner.Status disk) ok old new at buf it none = reviewed_none _ new it.reviews none
learned_none (owner.Note disk) ok old new at buf it none = note_none old new at disk ok buf it none
learned_none owner.Copy ok old new at buf it none = absurd (let e : Some it.copy ≡ None = sym it.is_open ∙ none in cc e)

event_none : (it : Event) (old new : State) → Makes it old new → NoneOpens old.core new.core
event_none (event.Land place how) old new made none = ap (λ (s : State). s.core.copy) made.is ∙ none
event_none (event.Admit place) old new made none = ap (λ (s : State). s.core.copy) made.is ∙ none
event_none (event.Pin place) old new made none = ap (λ (s : State). s.core.copy) made.is ∙ none
event_none event.StartStatus old new made none = ap (λ (s : State). s.core.copy) made.is ∙ none
event_none (event.StartNote place disk) old new made none = ap (λ (s : State). s.core.copy) made.is ∙ none
event_none (event.StartData place target) old new made none = ap (λ (s : State). s.core.copy) made.is ∙ none
event_none event.ReadCopy old new made none = absurd (let e : Some made.copy ≡ None = sym made.is_open ∙ none in cc e)
event_none event.WriteCopy old new made none = absurd (let e : Some made.copy ≡ None = sym made.is_open ∙ none in cc e)

-- ---- what it was given

abbrev pub Given : Type 0
Given = Descriptor × Origin × Log

abbrev pub given : Core → Given
given core = (core.descriptor, core.origin, record core.history { facts = [] })

cut_given : (log : Log) → record (cut_log log) { facts = [] } ≡ record log { facts = [] }
cut_given log = by (is_uncut log.facts)
  where
    by : (b : Bool) → record (if b then with_fact log Cut else log) { facts = [] } ≡ record log { facts = [] }
    by true = refl
    by false = refl

pub dark_given : (core : Core) → given (all_dark core) ≡ given core
dark_given core = ap (λ (log : Log). let g : Given = (core.descriptor, core.origin, log) in g) (cut_given core.history)

event_given : (it : Event) (old new : State) → Makes it old new → given new.core ≡ given old.core
event_given (event.Land place how) old new made = ap (λ (s : State). given s.core) made.is
event_given (event.Admit place) old new made = ap (λ (s : State). given s.core) made.is
event_given (event.Pin place) old new made = ap (λ (s : State). given s.core) made.is
event_given event.StartStatus old new made = ap (λ (s : State). given s.core) made.is
event_given (event.StartNote place disk) old new made = ap (λ (s : State). given s.core) made.is
event_given (event.StartData place target) old new made = ap (λ (s : State). given s.core) made.is
event_given event.ReadCopy old new made = ap (λ (s : State). given s.core) made.is
event_given event.WriteCopy old new made = ap (λ (s : State). given s.core) made.is

end_given : (old new : State) (at : ℕ) → Ends old new at → given new.core ≡ given old.core
end_given old new at it =
    let ground = learned_same it.row.owner it.ok old.core new.core at it.buf it.learns in
    let descriptor : new.core.descriptor ≡ old.core.descriptor = ap (λ (g : Ground). g.0) ground in
    let origin : new.core.origin ≡ old.core.origin = ap (λ (g : Ground). g.1) ground in
    let history : new.core.history ≡ old.core.history = ends_history old new at it in
    λ t. (descriptor t, origin t, record (history t) { facts = [] })

-- ---- a turn

-- what it was given stays, its power stays or it is over, and no copy is opened
pub record Goes (old new : Core) : Type 0 where
  pub given_is : given new ≡ given old
  pub power : GoesOnOrEnds old new
  pub copy : NoneOpens old new

same_goes : (old new : Core) → new ≡ old → Goes old new
same_goes old new is = record { given_is = ap given is; power = inl (ap (λ (c : Core). c.power) is); copy = λ none. ap (λ (c : Core). c.copy) is ∙ none }

module _ (old new : State) where
  event_goes : (it : Event) → Makes it old new → Goes old.core new.core
  event_goes it made = record { given_is = event_given it old new made; power = inl (event_framed it old new made).power_is; copy = event_none it old new made }

  end_goes : (at : ℕ) → Ends old new at → Goes old.core new.core
  end_goes at it = record {
    given_is = end_given old new at it;
    power = inl (end_framed old new at it).power_is;
    copy = learned_none it.row.owner it.ok old.core new.core at it.buf it.learns;
  }

  dark_goes : Darkens old new → Goes old.core new.core
  dark_goes it = record {
    given_is = ap given it.is ∙ dark_given (record old.core { status = new.core.status; cache = new.core.cache });
    power = inr (inl (ap (λ (c : Core). c.power) it.is));
    copy = λ none. ap (λ (c : Core). c.copy) it.is ∙ ap (option_map ended_copy) none;
  }

  finish_goes : old.core.power ≡ power.On → (answer : Turned) → FinishMakes old new answer → Goes old.core new.core
  finish_goes on turned.Moved made = end_goes made.0 made.1
  finish_goes on turned.Idle (inl finds) = same_goes old.core new.core finds.is
  finish_goes on turned.Idle (inr nothing) = same_goes old.core new.core (ap (λ (s : State). s.core) nothing.is)
  finish_goes on turned.Dark made = dark_goes made.1
  finish_goes on turned.Off made = record {
    given_is = ap (λ (s : State). given s.core) made.is;
    power = inr (inr (on, ap (λ (s : State). s.core.power) made.is));
    copy = λ none. ap (λ (s : State). s.core.copy) made.is ∙ ap (option_map ended_copy) none;
  }

  on_goes : old.core.power ≡ power.On → (answer : Turned) → OnMakes old new answer → Goes old.core new.core
  on_goes on answer (Moves it first made is) = event_goes it made
  on_goes on answer (NoStart it first start dark is) = dark_goes dark
  on_goes on answer (Finishes none made) = finish_goes on answer made

  pub turn_goes : (answer : Turned) → TurnMakes old new answer → Goes old.core new.core
  turn_goes answer (WasDark dark is same) = same_goes old.core new.core (ap (λ (s : State). s.core) same)
  turn_goes answer (WasOff off is same) = same_goes old.core new.core (ap (λ (s : State). s.core) same)
  turn_goes answer (WasOn on made) = on_goes on answer made
