-- A turn by its events.
use Rattle.std.proofs.Common.{◌≡◌, ◌<◌, inl, inr, true, sym, ◌∙◌, ap, subst}
use Rattle.lvm_session.specs.declared.open.Power.TheVariants as power
use Rattle.lvm_session.specs.State.{Core, State}
use Rattle.lvm_session.specs.declared.answers.Turned.{Turned}
use Rattle.lvm_session.specs.declared.answers.Turned.TheVariants as turned
use Rattle.lvm_session.specs.Turns.{Darkens, FinishMakes, Finishes, GoesOff, Moves, NoStart, OnMakes, TurnMakes, WasDark, WasOff, WasOn}
use Rattle.lvm_session.specs.Causes.{is_over}
use Rattle.lvm_session.specs.Left.{left_of}
use Rattle.lvm_session.specs.Sound.{IsSound}
use Rattle.lvm_keeps.proofs.KeepsLemmas.Darkening.{cut_keeps}
use Rattle.lvm_keeps.proofs.KeepsLemmas.Off.{off_keeps}
use Rattle.lvm_keeps.proofs.KeepsLemmas.Wait.{wait_keeps}
use Rattle.lvm_keeps_events.proofs.EventsLemmas.{events_keep}
use Rattle.lvm_keeps_events.proofs.KeepsFallsLemmas.Falls.{events_fall}
use Rattle.lvm_keeps_events.proofs.TurnKeepsLemmas.{ends_fall, ends_keep}
use Rattle.lvm_keeps_events.specs.Turning.{TurnEnds, TurnFalls, TurnKeeps, is_last}

module _ (old new : State) (sound : IsSound old) where
  finish_keeps : (answer : Turned) → old.core.power ≡ power.On → FinishMakes old new answer → IsSound new
  finish_keeps turned.Moved on made = ends_keep made.0 old new sound on made.1
  finish_keeps turned.Idle on (inl finds) = wait_keeps old new sound on finds
  finish_keeps turned.Idle on (inr nothing) = subst IsSound (sym nothing.is) sound
  finish_keeps turned.Dark on made = cut_keeps old new sound on made.1
  finish_keeps turned.Off on made = off_keeps old new sound on made

  on_keeps : (answer : Turned) → old.core.power ≡ power.On → OnMakes old new answer → IsSound new
  on_keeps answer on (Moves it first made is) = events_keep it old new sound on made
  on_keeps answer on (NoStart it first start dark is) = cut_keeps old new sound on dark
  on_keeps answer on (Finishes none made) = finish_keeps answer on made

  by_turn : (answer : Turned) → TurnMakes old new answer → IsSound new
  by_turn answer (WasDark dark is same) = subst IsSound (sym same) sound
  by_turn answer (WasOff off is same) = subst IsSound (sym same) sound
  by_turn answer (WasOn on made) = on_keeps answer on made

pub turn_keeps : TurnKeeps
turn_keeps old new answer sound made = by_turn old new sound answer made

-- ---- the work that is left

on_falls : (old new : State) → IsSound old → old.core.power ≡ power.On → OnMakes old new turned.Moved → left_of new.core < left_of old.core
on_falls old new sound on (Moves it first made is) = events_fall it old new sound on first made
on_falls old new sound on (NoStart it first start dark is) = absurd (cc is)
on_falls old new sound on (Finishes none made) = ends_fall made.0 old new sound on none made.1

pub turn_falls : TurnFalls
turn_falls old new sound (WasDark dark is same) = absurd (cc is)
turn_falls old new sound (WasOff off is same) = absurd (cc is)
turn_falls old new sound (WasOn on made) = on_falls old new sound on made

-- ---- the end

module _ (old new : State) (sound : IsSound old) where
  abbrev Ended : Type 0
  Ended = IsSound new × (is_over new.core.power ≡ true)

  is_dark : old.core.power ≡ power.On → Darkens old new → Ended
  is_dark on dark = (cut_keeps old new sound on dark, ap (λ (c : Core). is_over c.power) dark.is)

  is_off : old.core.power ≡ power.On → GoesOff old new → Ended
  is_off on off = (off_keeps old new sound on off, ap (λ (s : State). is_over s.core.power) off.is)

  on_ends : (answer : Turned) → old.core.power ≡ power.On → OnMakes old new answer → is_last answer ≡ true → Ended
  on_ends answer on (Moves it first made is) last = absurd (let none = sym last ∙ ap is_last is in cc none)
  on_ends answer on (NoStart it first start dark is) last = is_dark on dark
  on_ends turned.Moved on (Finishes none made) last = absurd (cc last)
  on_ends turned.Idle on (Finishes none made) last = absurd (cc last)
  on_ends turned.Dark on (Finishes none made) last = is_dark on made.1
  on_ends turned.Off on (Finishes none made) last = is_off on made

  was_over : is_over old.core.power ≡ true → new ≡ old → Ended
  was_over over same = (subst IsSound (sym same) sound, ap (λ (s : State). is_over s.core.power) same ∙ over)

  by_last : (answer : Turned) → TurnMakes old new answer → is_last answer ≡ true → Ended
  by_last answer (WasDark dark is same) last = was_over (ap is_over dark) same
  by_last answer (WasOff off is same) last = was_over (ap is_over off) same
  by_last answer (WasOn on made) last = on_ends answer on made last

pub turn_ends : TurnEnds
turn_ends old new answer sound made last = by_last old new sound answer made last
