-- What a turn's answer says.
use Rattle.std.proofs.Common.{◌≡◌, ◌<◌, ◌⊎◌, inl, inr, true, Some, None, refl, sym, ◌∙◌, ap, subst, arith}
use Rattle.lvm_session.specs.declared.open.Power.TheVariants as power
use Rattle.lvm_session.specs.State.{Core, State}
use Rattle.lvm_session.specs.Enabled.{first_event}
use Rattle.lvm_session.specs.declared.answers.Turned.{Turned}
use Rattle.lvm_session.specs.declared.answers.Turned.TheVariants as turned
use Rattle.lvm_session.specs.Turns.{FinishMakes, Finds, FindsNothing, Finishes, Moves, NoStart, OnMakes, TurnMakes, WasDark, WasOff, WasOn}
use Rattle.lvm_session.specs.Left.{left_of}
use Rattle.lvm_session.specs.Sound.{IsOver, IsSound}
use Rattle.lvm_keeps_events.specs.Turning.{is_last}
use Rattle.lvm_keeps_events.proofs.TurningLemmas.{turn_ends, turn_falls}
use Rattle.lvm_keeps_events.specs.Telling.{CannotGoOn, TurnTells, power_by}
use Rattle.lvm_keeps_events.proofs.TellingLemmas.Frames.{end_framed, event_framed}

module _ (old new : State) (sound : IsSound old) where
  -- ---- whether it goes on

  finish_power : (answer : Turned) → old.core.power ≡ power.On → FinishMakes old new answer → new.core.power ≡ power_by answer
  finish_power turned.Moved on made = (end_framed old new made.0 made.1).power_is ∙ on
  finish_power turned.Idle on (inl finds) = ap (λ (c : Core). c.power) finds.is ∙ on
  finish_power turned.Idle on (inr nothing) = ap (λ (s : State). s.core.power) nothing.is ∙ on
  finish_power turned.Dark on made = ap (λ (c : Core). c.power) made.1.is
  finish_power turned.Off on made = ap (λ (s : State). s.core.power) made.is

  on_power : (answer : Turned) → old.core.power ≡ power.On → OnMakes old new answer → new.core.power ≡ power_by answer
  on_power answer on (Moves it first made is) = (event_framed it old new made).power_is ∙ on ∙ sym (ap power_by is)
  on_power answer on (NoStart it first start dark is) = ap (λ (c : Core). c.power) dark.is ∙ sym (ap power_by is)
  on_power answer on (Finishes none made) = finish_power answer on made

  power_after : (answer : Turned) → TurnMakes old new answer → new.core.power ≡ power_by answer
  power_after answer (WasDark dark is same) = ap (λ (s : State). s.core.power) same ∙ dark ∙ sym (ap power_by is)
  power_after answer (WasOff off is same) = ap (λ (s : State). s.core.power) same ∙ off ∙ sym (ap power_by is)
  power_after answer (WasOn on made) = on_power answer on made

  -- ---- whether nothing may be made

  finish_idle : (answer : Turned) → answer ≡ turned.Idle → old.core.power ≡ power.On → first_event old.core ≡ None → FinishMakes old new answer → CannotGoOn old new
  finish_idle turned.Moved e on none made = absurd (cc e)
  finish_idle turned.Idle e on none made = record { on = on; none = none; still = made }
  finish_idle turned.Dark e on none made = absurd (cc e)
  finish_idle turned.Off e on none made = absurd (cc e)

  on_idle : (answer : Turned) → answer ≡ turned.Idle → old.core.power ≡ power.On → OnMakes old new answer → CannotGoOn old new
  on_idle answer e on (Moves it first made is) = absurd (let no : turned.Moved ≡ turned.Idle = sym is ∙ e in cc no)
  on_idle answer e on (NoStart it first start dark is) = absurd (let no : turned.Dark ≡ turned.Idle = sym is ∙ e in cc no)
  on_idle answer e on (Finishes none made) = finish_idle answer e on none made

  is_still : (answer : Turned) → TurnMakes old new answer → answer ≡ turned.Idle → CannotGoOn old new
  is_still answer (WasDark dark is same) e = absurd (let no : turned.Dark ≡ turned.Idle = sym is ∙ e in cc no)
  is_still answer (WasOff off is same) e = absurd (let no : turned.Off ≡ turned.Idle = sym is ∙ e in cc no)
  is_still answer (WasOn on made) e = on_idle answer e on made

  -- nothing changes of the session
  same_core : Finds old new ⊎ FindsNothing old new → new.core ≡ old.core
  same_core (inl finds) = finds.is
  same_core (inr nothing) = ap (λ (s : State). s.core) nothing.is

  falls : (answer : Turned) → TurnMakes old new answer → answer ≡ turned.Moved → left_of new.core < left_of old.core
  falls answer made e = turn_falls old new sound (subst (TurnMakes old new) e made)

  -- so one that has moved isn't one in which nothing may be made, nor one by which it is over
  by_answer : (answer : Turned) → CannotGoOn old new → new.core.power ≡ power_by answer → (answer ≡ turned.Moved → left_of new.core < left_of old.core) → answer ≡ turned.Idle
  by_answer turned.Moved still goes less = absurd (let same = ap left_of (same_core still.still) in let fell = less refl in omega (arith, same, fell))
  by_answer turned.Idle still goes less = refl
  by_answer turned.Dark still goes less = absurd (let no : power.On ≡ power.Dark = sym still.on ∙ sym (ap (λ (c : Core). c.power) (same_core still.still)) ∙ goes in cc no)
  by_answer turned.Off still goes less = absurd (let no : power.On ≡ power.Off = sym still.on ∙ sym (ap (λ (c : Core). c.power) (same_core still.still)) ∙ goes in cc no)

  -- ---- all of it

  pub turn_tells : (answer : Turned) → TurnMakes old new answer → TurnTells old new answer
  turn_tells answer made = record {
    power_is = power_after answer made;
    idle = (is_still answer made, λ still. by_answer answer still (power_after answer made) (falls answer made));
    moved = falls answer made;
    over = λ last. let ended = turn_ends old new answer sound made last in ended.0.over ended.1;
  }
