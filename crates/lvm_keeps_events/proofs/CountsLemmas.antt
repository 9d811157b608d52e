-- No count of the shelf falls in a turn.
use Rattle.std.proofs.Common.{◌≡◌, ◌⊎◌, inl, inr, ℕ, Bool, true, false, subst, sym, ap}
use Rattle.lvm_disk.specs.Counts.{NoneFalls}
use Rattle.lvm_disk.specs.Device.{Device}
use Rattle.lvm_disk.specs.Paths.{Broke, Ended, Started, Waited, WasCut}
use Rattle.lvm_disk.specs.Steps.{GoesDark}
use Rattle.lvm_disk.proofs.CountingLemmas.{none_falls_at_once}
use Rattle.lvm_disk.proofs.StepsLemmas.{step_counts}
use Rattle.lvm_session.specs.declared.event.Event.{Event}
use Rattle.lvm_session.specs.declared.event.Event.TheVariants as event
use Rattle.lvm_session.specs.State.{State}
use Rattle.lvm_session.specs.declared.answers.Turned.{Turned}
use Rattle.lvm_session.specs.declared.answers.Turned.TheVariants as turned
use Rattle.lvm_session.specs.Ends.{Ends, EndsAs}
use Rattle.lvm_session.specs.Turns.{FinishMakes, Finishes, Makes, Moves, NoStart, OnMakes, TurnMakes, WasDark, WasOff, WasOn}

stays : (old new : Device) → new ≡ old → NoneFalls old.counts new.counts
stays old new same = subst (λ (d : Device). NoneFalls old.counts d.counts) (sym same) (none_falls_at_once old.counts)

darkens : (old new : Device) → GoesDark old new → NoneFalls old.counts new.counts
darkens old new (inl off) = stays old new off.1
darkens old new (inr cuts) = step_counts old new (WasCut cuts)

event_counts : (it : Event) (old new : State) → Makes it old new → NoneFalls old.device.counts new.device.counts
event_counts (event.Land place how) old new made = stays old.device new.device (ap (λ (s : State). s.device) made.is)
event_counts (event.Admit place) old new made = stays old.device new.device (ap (λ (s : State). s.device) made.is)
event_counts (event.Pin place) old new made = stays old.device new.device (ap (λ (s : State). s.device) made.is)
event_counts event.StartStatus old new made = step_counts old.device new.device (Started made.flight made.launches.starts)
event_counts (event.StartNote place disk) old new made = step_counts old.device new.device (Started made.flight made.launches.starts)
event_counts (event.StartData place target) old new made = step_counts old.device new.device (Started made.flight made.launches.starts)
event_counts event.ReadCopy old new made = step_counts old.device new.device (Started made.flight made.launches.starts)
event_counts event.WriteCopy old new made = step_counts old.device new.device (Started made.flight made.starts)

module _ (old new : State) where
  end_counts : (at : ℕ) → Ends old new at → NoneFalls old.device.counts new.device.counts
  end_counts at it = by it.ok it.returns.ends
    where
      by : (ok : Bool) → EndsAs ok old.device new.device it.row.ticket it.buf → NoneFalls old.device.counts new.device.counts
      by true ended = step_counts old.device new.device (Ended it.row.ticket it.buf ended)
      by false ended = step_counts old.device new.device (Broke it.row.ticket it.buf ended)

  finish_counts : (answer : Turned) → FinishMakes old new answer → NoneFalls old.device.counts new.device.counts
  finish_counts turned.Moved made = end_counts made.0 made.1
  finish_counts turned.Idle (inl finds) = step_counts old.device new.device (Waited finds.waits)
  finish_counts turned.Idle (inr nothing) = stays old.device new.device (ap (λ (s : State). s.device) nothing.is)
  finish_counts turned.Dark made = darkens old.device new.device made.1.device
  finish_counts turned.Off made = stays old.device new.device (ap (λ (s : State). s.device) made.is)

  on_counts : (answer : Turned) → OnMakes old new answer → NoneFalls old.device.counts new.device.counts
  on_counts answer (Moves it first made is) = event_counts it old new made
  on_counts answer (NoStart it first start dark is) = darkens old.device new.device dark.device
  on_counts answer (Finishes none made) = finish_counts answer made

  pub turn_counts : (answer : Turned) → TurnMakes old new answer → NoneFalls old.device.counts new.device.counts
  turn_counts answer (WasDark dark is same) = stays old.device new.device (ap (λ (s : State). s.device) same)
  turn_counts answer (WasOff off is same) = stays old.device new.device (ap (λ (s : State). s.device) same)
  turn_counts answer (WasOn on made) = on_counts answer made
