-- The write by which a copy is brought up fails, and the copy with it.
use Rattle.std.proofs.Common.{◌≡◌, inl, ℕ, false, ◌&&◌, ◌||◌, not, List, Option, Some, refl, sym, ap, subst, ◌∙◌}
use Rattle.std.specs.Prelude.{slice_set}
use Rattle.lvm_num.specs.Descriptor.{is_pp}
use Rattle.lvm_num.specs.declared.place.Pp.{Pp}
use Rattle.lvm_num.proofs.Booleans.{clash_gives}
use Rattle.lvm_vol.specs.Facts.{Fact}
use Rattle.lvm_disk.specs.Device.{HasSectors}
use Rattle.lvm_status.specs.Update.{Stored}
use Rattle.lvm_session.specs.declared.bringing.OpenCopy.{OpenCopy}
use Rattle.lvm_session.specs.declared.bringing.CopyEnd.TheVariants as ending
use Rattle.lvm_session.specs.declared.bringing.Step.TheVariants as step
use Rattle.lvm_session.specs.State.{Core, State, state}
use Rattle.lvm_session.specs.Bringing.{is_held_stale, is_idle, is_whole, marked_by_end, with_end}
use Rattle.lvm_session.specs.Ends.{with_copy, with_return}
use Rattle.lvm_session.specs.Sound.{IsSound}
use Rattle.lvm_keeps_events.specs.Ends.{EndsWrite}
use Rattle.lvm_invariant.specs.State.{ModelState}
use Rattle.lvm_tie.specs.Tied.{IsTied}
use Rattle.lvm_tie.proofs.StateLemmas.{copy_is}
use Rattle.lvm_tie.proofs.StepsLemmas.Landed.{landed_write}
use Rattle.lvm_tie.proofs.StepsLemmas.Stepped.{ended_ties, wanted_stale}
use Rattle.lvm_tie.specs.Steps.{CopyWriteFailTies}

module _ (past : List Fact) (old new : State) (at : ℕ) (tied : IsTied past old) (sound : IsSound new) (sectors : HasSectors new.device) (event : EndsWrite old new at) where
  abbrev v : ModelState
  v = tied.view

  abbrev c : OpenCopy
  c = event.copy

  -- it isn't whole yet
  part : is_whole old.core c ≡ false
  part = (copy_is past old tied c event.is_open).under_way event.runs (ap is_idle event.writes)

  -- so nothing more is wanted stale
  none_due : (p : Pp) → marked_by_end old.core (Some ending.SyncFailed) p ≡ false
  none_due p = ap (λ (m : Option OpenCopy). Rattle.std.specs.Option.option_map_or (λ (x : OpenCopy). is_whole old.core x && is_pp p x.pp && (not x.moves || is_held_stale old.core x.pp)) m false) event.is_open ∙ ap (λ b. b && is_pp p c.pp && (not c.moves || is_held_stale old.core c.pp)) part

  same : new.core.status ≡ old.core.status
  same = event.fails.marks.same (λ p due. clash_gives (marked_by_end old.core (Some ending.SyncFailed) p) due (none_due p))

  abbrev resting : Core
  resting = with_copy (with_return old.core at event.buf) (record c { step = step.Idle })

  abbrev core : Core
  core = with_end resting (Some ending.SyncFailed)

  pub fail_tied : IsTied past new
  fail_tied =
      let is : new.core ≡ core = event.fails.is ∙ ap (λ (s : Stored). record core { status = s }) same in
      let whole : new ≡ state new.device core = λ t. record { device = new.device; core = is t } in
      subst (IsTied past) (sym whole)
      (ended_ties past old new at event.row false event.buf tied event.returns event.own c event.is_open (record c { step = step.Idle; end = Some ending.SyncFailed }) (slice_set old.core.pool event.buf.number false) core.queue
      (landed_write past old new at event.row false event.buf tied event.returns event.own c event.is_open event.writes sectors v.open_copy (inl refl))
      (wanted_stale past old new at event.row false event.buf tied event.returns event.own c event.is_open event.runs part) refl refl (record { moves = refl; lv = refl; lp = refl; pp = refl }) (subst IsSound whole sound))

pub copy_write_fail_ties : CopyWriteFailTies
copy_write_fail_ties at past old new tied sound event = fail_tied past old new at tied sound event.0 event.1
