-- A transfer by which a copy was brought up ends once the copy has ended.
use Rattle.std.proofs.Common.{◌≡◌, inl, ℕ, Bool, false, List, Option, Some, None, refl, sym, subst, ◌∙◌}
use Rattle.std.specs.Prelude.{slice_set}
use Rattle.lvm_vol.specs.Facts.{Fact}
use Rattle.lvm_disk.specs.Device.{HasSectors}
use Rattle.lvm_session.specs.declared.bringing.OpenCopy.{OpenCopy}
use Rattle.lvm_session.specs.declared.bringing.Step.{Step}
use Rattle.lvm_session.specs.declared.bringing.Step.TheVariants as step
use Rattle.lvm_session.specs.State.{Core, State, state}
use Rattle.lvm_session.specs.Bringing.{groups_of}
use Rattle.lvm_session.specs.Ends.{after_quit}
use Rattle.lvm_session.specs.Sound.{IsSound}
use Rattle.lvm_keeps_events.specs.Ends.{EndsQuit}
use Rattle.lvm_invariant.specs.State.{ModelState}
use Rattle.lvm_tie.specs.Seen.{SeesCopy, SeesRunning}
use Rattle.lvm_tie.specs.Tied.{IsTied}
use Rattle.lvm_tie.proofs.TiedLemmas.Orderly.{StepIsOut}
use Rattle.lvm_tie.proofs.StepsLemmas.Landed.{HasLanded, ended, landed_read, landed_write, out}
use Rattle.lvm_tie.proofs.StepsLemmas.Stepped.{ended_ties}
use Rattle.lvm_tie.specs.Steps.{CopyQuitTies}

module _ (past : List Fact) (old new : State) (at : ℕ) (ok : Bool) (tied : IsTied past old) (sound : IsSound new) (sectors : HasSectors new.device) (event : EndsQuit old new at ok) where
  abbrev v : ModelState
  v = tied.view

  abbrev c : OpenCopy
  c = event.copy

  abbrev d : OpenCopy
  d = record c { step = step.Idle }

  none_open : v.open_copy ≡ None
  none_open = subst (λ (b : Bool). SeesRunning b (groups_of old.core) c v.open_copy) event.over (subst (λ (m : Option OpenCopy). SeesCopy (groups_of old.core) m v.open_copy) event.is_open tied.sees.open_copy)

  landed : HasLanded past old new at event.row ok event.buf tied event.returns event.own c event.is_open v.open_copy
  landed = by c.step refl (out past old new at event.row ok event.buf tied event.returns event.own c event.is_open)
    where
      by : (st : Step) → c.step ≡ st → StepIsOut old.core c st (ended past old new at event.row ok event.buf tied event.returns event.own c event.is_open).flight
          → HasLanded past old new at event.row ok event.buf tied event.returns event.own c event.is_open v.open_copy
      by step.Idle is none = absurd none
      by (step.Reading source) is flies = landed_read past old new at event.row ok event.buf tied event.returns event.own c event.is_open source is
      by (step.Read buf) is none = absurd none
      by step.Writing is flies = landed_write past old new at event.row ok event.buf tied event.returns event.own c event.is_open is sectors v.open_copy (inl refl)

  pub quit_tied : IsTied past new
  quit_tied =
      let core : Core = after_quit old.core at c event.buf in
      let whole : new ≡ state new.device core = λ t. record { device = new.device; core = event.is t } in
      subst (IsTied past) (sym whole)
      (ended_ties past old new at event.row ok event.buf tied event.returns event.own c event.is_open d (slice_set old.core.pool event.buf.number false) core.queue
      landed (λ o is. absurd (let e : None ≡ Some o = sym none_open ∙ is in cc)) event.over refl (record { moves = refl; lv = refl; lp = refl; pp = refl }) (subst IsSound whole sound))

pub copy_quit_ties : CopyQuitTies
copy_quit_ties at ok past old new tied sound event = quit_tied past old new at ok tied sound event.0 event.1
