-- Each turn runs a session on.
use Rattle.std.proofs.Common.{◌≡◌, ℕ, sym, ap, subst, ◌∙◌}
use Rattle.std.specs.Prelude.{◌<◌}
use Rattle.lvm_disk.specs.Device.{HasSectors}
use Rattle.lvm_steps.specs.Behind.{beginning_at}
use Rattle.lvm_steps.specs.Laws.{LeavesBefore}
use Rattle.lvm_session.specs.declared.answers.Turned.{Turned}
use Rattle.lvm_session.specs.declared.open.Power.TheVariants as power
use Rattle.lvm_session.specs.State.{State}
use Rattle.lvm_session.specs.Turns.{TurnMakes, WasDark, WasOff, WasOn}
use Rattle.lvm_session.specs.Sound.{IsSound}
use Rattle.lvm_keeps_events.proofs.TellingLemmas.Frames.{turn_room}
use Rattle.lvm_keeps_events.proofs.CountsLemmas.{turn_counts}
use Rattle.lvm_tie.specs.Stamps.{AreValid}
use Rattle.lvm_tie.proofs.LandingsLemmas.Causes.{turn_keeps_causes}
use Rattle.lvm_tie.proofs.SparesLemmas.{turn_spares_descriptors}
use Rattle.lvm_tie.proofs.StampsLemmas.{turn_is_earlier, turn_keeps_epoch, turn_leaves_before}
use Rattle.lvm_tie.proofs.GoingOnLemmas.Turning.{turn_goes_on}
use Rattle.lvm_tie.specs.Laws.{TurnRunsOn}
use Rattle.lvm_tie.specs.Running.{IsBefore, KeepsShape, LeavesSession}
use Rattle.lvm_tie.proofs.LawsLemmas.Running.{origin_same, was_lit}
use Rattle.lvm_tie.proofs.RunningLemmas.Shapes.{Given, turn_goes}
use Rattle.lvm_tie.proofs.RunningLemmas.Shelves.{turn_steps}

module _ (old new : State) (answer : Turned) (was_sound : IsSound old) (sound : IsSound new) (valid : AreValid old.core.status) (made : TurnMakes old new answer) where
  keeps : KeepsShape old new
  keeps =
      let goes = turn_goes old new answer made in
      let steps = turn_steps old new was_sound valid answer made in
      record {
        sizes = steps.sizes;
        counts = turn_counts old new answer made;
        cut = steps.cut;
        log = ap (λ (g : Given). g.2) goes.given_is;
        room = turn_room old new answer made;
        descriptor = ap (λ (g : Given). g.0) goes.given_is;
        origin = origin_same (ap (λ (g : Given). g.1) goes.given_is);
        power = goes.power;
      }

  not_dark : old.core.power ≡ power.On → old.core.power ≡ power.Dark → ⊥
  not_dark on dark = let e : power.On ≡ power.Dark = sym on ∙ dark in cc

  module _ (moment : ℕ) (was : IsBefore moment old) where
    left_before : (now : Turned) → TurnMakes old new now → LeavesBefore (beginning_at moment) new.device
    left_before now (WasDark dark is same) = subst (λ (s : State). LeavesBefore (beginning_at moment) s.device) (sym same) was.leaves
    left_before now (WasOff off is same) = subst (λ (s : State). LeavesBefore (beginning_at moment) s.device) (sym same) was.leaves
    left_before now (WasOn on makes) =
        let own = was.session (not_dark on) in
        turn_leaves_before moment old new now was_sound sound own.0 valid own.1 was.leaves (WasOn on makes)

    stays_before : IsBefore moment new
    stays_before = record {
      leaves = left_before answer made;
      session = λ lit.
          let own = was.session (was_lit old.core new.core keeps.power lit) in
          let same = turn_keeps_epoch old new answer made lit in
          (same.stamped own.0, subst (λ n. n < moment) (sym same.epoch) own.1);
    }

  leaves : HasSectors new.device → LeavesSession old new
  leaves sectors = record {
    good = turn_goes_on old.core.history.run old new answer was_sound sound sectors valid.wanted made;
    descriptors = λ outside.
        let steps = (turn_steps old new was_sound valid answer made).leaves outside in
        record { leaves = steps.0; spares = turn_spares_descriptors old new answer outside made; finds = steps.1 };
    before = stays_before;
    epoch = turn_keeps_epoch old new answer made;
    later = λ moment was. turn_is_earlier moment old new answer made was;
    causes = λ first has. turn_keeps_causes first old new answer was_sound made has;
    keeps = keeps;
  }

pub turn_runs_on : TurnRunsOn
turn_runs_on old new answer was_sound sound sectors valid made = record {
  leaves = leaves old new answer was_sound sound valid made sectors;
  origin = ap (λ (g : Given). g.1) (turn_goes old new answer made).given_is;
  orders = (turn_steps old new was_sound valid answer made).orders;
  copy = (turn_goes old new answer made).copy;
}
