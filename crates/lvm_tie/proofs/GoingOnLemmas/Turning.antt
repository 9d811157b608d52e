-- A good session goes on over a turn.
use Rattle.std.proofs.Common.{◌≡◌, ◌⊎◌, inl, inr, ℕ, sym, ap, subst, ◌∙◌}
use Rattle.lvm_num.specs.Status.{IsValidStatus}
use Rattle.lvm_disk.specs.Device.{HasSectors}
use Rattle.lvm_disk.specs.Paths.{Started, Waited}
use Rattle.lvm_session.specs.declared.event.Event.{Event}
use Rattle.lvm_session.specs.declared.event.Event.TheVariants as event
use Rattle.lvm_session.specs.declared.open.Power.TheVariants as power
use Rattle.lvm_session.specs.State.{Core, State, state}
use Rattle.lvm_session.specs.declared.answers.Turned.{Turned}
use Rattle.lvm_session.specs.declared.answers.Turned.TheVariants as turned
use Rattle.lvm_session.specs.Turns.{Makes, Darkens, GoesOff, Finds, FindsNothing, FinishMakes, OnMakes, Moves as Made, NoStart, Finishes, WasDark, WasOff, WasOn}
use Rattle.lvm_session.specs.Sound.{IsSound}
use Rattle.lvm_tie.specs.Tied.{IsTied}
use Rattle.lvm_tie.proofs.LandsLemmas.Landings.{land_ties}
use Rattle.lvm_tie.proofs.RecordsLemmas.NoteTies.{note_start_ties}
use Rattle.lvm_tie.proofs.RecordsLemmas.StatusTies.{status_start_ties}
use Rattle.lvm_tie.proofs.RequestsLemmas.AdmitTies.{admit_ties}
use Rattle.lvm_tie.proofs.RequestsLemmas.PinTies.{pin_ties}
use Rattle.lvm_tie.proofs.StartsLemmas.CopyReads.{copy_read_ties}
use Rattle.lvm_tie.proofs.StartsLemmas.CopyWrites.{copy_write_ties}
use Rattle.lvm_tie.proofs.StartsLemmas.Datas.{data_start_ties}
use Rattle.lvm_tie.proofs.OverLemmas.Dark.{dark_goes_on}
use Rattle.lvm_tie.proofs.OverLemmas.Off.{off_goes_on}
use Rattle.lvm_tie.specs.GoingOn.{SessionGoesOn, TurnGoesOn}
use Rattle.lvm_tie.proofs.TiedLemmas.Ends.{end_ties}
use Rattle.lvm_tie.proofs.SessionEndsLemmas.Histories.{ends_history, ends_step}
use Rattle.lvm_tie.proofs.GoingOnLemmas.Spanning.{goes_same, goes_still, goes_step, goes_entry, counted}

module _ (run : ℕ) (old new : State) (on : old.core.power ≡ power.On) (sound : IsSound new) (sectors : HasSectors new.device) where
  makes_goes_on : IsValidStatus old.core.status.wanted → (it : Event) → Makes it old new → SessionGoesOn run old new
  makes_goes_on valid (event.Land place how) makes =
      goes_entry run old new (λ past tied. land_ties place how past old new tied sound makes) on _ (ap (λ (n : State). n.device) makes.is) (ap (λ (n : State). n.core.history.facts) makes.is)
  makes_goes_on valid (event.Admit place) makes =
      goes_still run old new (λ past tied. admit_ties place past old new tied sound makes) (λ e. on) (ap (λ (n : State). n.device) makes.is) (ap (λ (n : State). n.core.history.facts) makes.is)
  makes_goes_on valid (event.Pin place) makes =
      goes_still run old new (λ past tied. pin_ties place past old new tied sound makes) (λ e. on) (ap (λ (n : State). n.device) makes.is) (ap (λ (n : State). n.core.history.facts) makes.is)
  makes_goes_on valid event.StartStatus makes =
      goes_step run old new (λ past tied. status_start_ties past old new tied sound valid makes) on (Started makes.flight makes.launches.starts) (ap (λ (n : State). n.core.history.facts) makes.is)
  makes_goes_on valid (event.StartNote place disk) makes =
      goes_step run old new (λ past tied. note_start_ties place disk past old new tied sound makes) on (Started makes.flight makes.launches.starts) (ap (λ (n : State). n.core.history.facts) makes.is)
  makes_goes_on valid (event.StartData place target) makes =
      goes_step run old new (λ past tied. data_start_ties place target past old new tied sound makes) on (Started makes.flight makes.launches.starts) (ap (λ (n : State). n.core.history.facts) makes.is)
  makes_goes_on valid event.ReadCopy makes =
      goes_step run old new (λ past tied. copy_read_ties past old new tied sound makes) on (Started makes.flight makes.launches.starts) (ap (λ (n : State). n.core.history.facts) makes.is)
  makes_goes_on valid event.WriteCopy makes =
      goes_step run old new (λ past tied. copy_write_ties past old new tied sound makes) on (Started makes.flight makes.starts) (ap (λ (n : State). n.core.history.facts) makes.is)

  darkens_goes_on : Darkens old new → SessionGoesOn run old new
  darkens_goes_on makes first good = (
    λ now. absurd (let e : power.Dark ≡ power.On = sym (ap (λ (c : Core). c.power) makes.is) ∙ now in cc),
    dark_goes_on run first old new on good makes,
  )

  off_goes : GoesOff old new → SessionGoesOn run old new
  off_goes makes first good = (
    λ now. absurd (let e : power.Off ≡ power.On = sym (ap (λ (n : State). n.core.power) makes.is) ∙ now in cc),
    off_goes_on run first old new on good makes,
  )

  finds_goes_on : Finds old new ⊎ FindsNothing old new → SessionGoesOn run old new
  finds_goes_on (inl finds) =
      let now : new ≡ state (record old.device { counts = record old.device.counts { waits = new.device.counts.waits } }) old.core = let d = finds.waits.new_is in let c = finds.is in λ t. record { device = d t; core = c t } in
      goes_step run old new
      (λ past tied. subst (IsTied past) (sym now) (counted past old (record old.device.counts { waits = new.device.counts.waits }) tied (subst IsSound now sound)))
      on (Waited finds.waits) (ap (λ (c : Core). c.history.facts) finds.is)
  finds_goes_on (inr nothing) = goes_same run old new nothing.is

  finish_goes_on : (answer : Turned) → FinishMakes old new answer → SessionGoesOn run old new
  finish_goes_on turned.Moved makes = goes_step run old new (λ past tied. end_ties makes.0 past old new tied sound (sectors, makes.1)) on
      (ends_step makes.1.ok old.device new.device makes.1.row.ticket makes.1.buf makes.1.returns.ends) (ap (λ (h : Rattle.lvm_vol.specs.Log.Log). h.facts) (ends_history old new makes.0 makes.1))
  finish_goes_on turned.Idle makes = finds_goes_on makes
  finish_goes_on turned.Dark makes = darkens_goes_on makes.1
  finish_goes_on turned.Off makes = off_goes makes

  on_goes_on : IsValidStatus old.core.status.wanted → (answer : Turned) → OnMakes old new answer → SessionGoesOn run old new
  on_goes_on valid answer (Made it first_is makes answer_is) = makes_goes_on valid it makes
  on_goes_on valid answer (NoStart it first_is starts darkens answer_is) = darkens_goes_on darkens
  on_goes_on valid answer (Finishes none makes) = finish_goes_on answer makes

pub turn_goes_on : TurnGoesOn
turn_goes_on run old new answer was_sound sound sectors valid (WasDark off answer_is same) = goes_same run old new same
turn_goes_on run old new answer was_sound sound sectors valid (WasOff off answer_is same) = goes_same run old new same
turn_goes_on run old new answer was_sound sound sectors valid (WasOn on makes) = on_goes_on run old new on sound sectors valid answer makes
