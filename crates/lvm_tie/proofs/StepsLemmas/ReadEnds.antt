-- The read by which a copy is brought up ends well: its blocks are in hand.
use Rattle.std.proofs.Common.{◌≡◌, inr, ℕ, Bool, true, false, ◌&&◌, not, if◌then◌else◌, List, Some, None, refl, sym, ap, subst, ◌∙◌}
use Rattle.std.specs.Prelude.{IsTrue}
use Rattle.lvm_num.specs.declared.place.Pp.{Pp}
use Rattle.lvm_num.specs.Buffer.{Sector}
use Rattle.lvm_num.specs.Disks.{has}
use Rattle.lvm_num.specs.Geometry.{sector_of}
use Rattle.lvm_vol.specs.Facts.{Fact}
use Rattle.lvm_session.specs.declared.bringing.OpenCopy.{OpenCopy}
use Rattle.lvm_session.specs.declared.bringing.Step.TheVariants as step
use Rattle.lvm_session.specs.State.{Core, State, state}
use Rattle.lvm_session.specs.Bringing.{is_idle, is_whole}
use Rattle.lvm_session.specs.Ends.{after_read}
use Rattle.lvm_session.specs.Sound.{IsCopy, IsSound}
use Rattle.lvm_keeps_events.specs.Ends.{EndsRead}
use Rattle.lvm_invariant.specs.State.{Badly, Flying, Queued, ModelState, Well, covers, is_past}
use Rattle.lvm_invariant.specs.CopyWrite.{copied}
use Rattle.lvm_invariant.specs.Events.{Read}
use Rattle.lvm_invariant.specs.Read.{reading}
use Rattle.lvm_invariant.specs.Updates.{put}
use Rattle.lvm_num.specs.Descriptor.{is_pp}
use Rattle.lvm_crash.specs.Bringing.{IsReading, in_buffer}
use Rattle.lvm_crash.proofs.BringingLemmas.{read_gets}
use Rattle.lvm_tie.specs.Seen.{SeesHand, SeesStep, update_of}
use Rattle.lvm_tie.specs.Tied.{IsTied}
use Rattle.lvm_tie.proofs.StateLemmas.{copy_is}
use Rattle.lvm_tie.proofs.TiedLemmas.Orderly.{valid_of}
use Rattle.lvm_tie.proofs.StepsLemmas.Leaving.{Stands, quiet}
use Rattle.lvm_tie.proofs.StepsLemmas.Landed.{at_q, ended, hand, its_read, landed_read, now, q, read_stands, sees, source_aimed}
use Rattle.lvm_tie.proofs.StepsLemmas.Stepped.{going_ties}
use Rattle.lvm_tie.specs.Steps.{CopyReadEndTies}

module _ (past : List Fact) (old new : State) (at : ℕ) (tied : IsTied past old) (sound : IsSound new) (event : EndsRead old new at) where
  abbrev core : Core
  core = old.core

  abbrev v : ModelState
  v = tied.view

  abbrev c : OpenCopy
  c = event.copy

  abbrev source : Pp
  source = event.source

  abbrev step_q : Queued
  step_q = q past old new at event.row true event.buf tied event.returns event.own c event.is_open

  its_copy : IsCopy core c
  its_copy = copy_is past old tied c event.is_open

  part : is_whole core c ≡ false
  part = its_copy.under_way event.runs (ap is_idle event.reads)

  seen_step : SeesStep core c step_q
  seen_step = sees past old new at event.row true event.buf tied event.returns event.own c event.is_open

  is_copy : IsTrue (v.is_copy step_q.lv step_q.first source)
  is_copy = source_aimed past old new at event.row true event.buf tied event.returns event.own c event.is_open source event.reads

  -- ---- what it has got

  its_hand : SeesHand (step.Reading source) step_q
  its_hand = hand past old new at event.row true event.buf tied event.returns event.own c event.is_open (step.Reading source) event.reads

  abbrev value : ℕ → Sector
  value b = in_buffer step_q event.buf b

  gets : (lv b : ℕ) → IsTrue (covers step_q lv b) → value b ≡ v.media.block lv b source
  gets lv b over =
      let ends = ended past old new at event.row true event.buf tied event.returns event.own c event.is_open in
      let moves = its_read past old new at event.row true event.buf tied event.returns event.own c event.is_open source event.reads in
      let is_reading : IsReading core.descriptor.mib step_q source ends.flight = record {
        read = moves.write_is;
        disk = moves.disk_is;
        first = moves.first ∙ ap (sector_of core.descriptor.mib source.pp) (sym seen_step.first);
        count = moves.count ∙ sym seen_step.count;
      } in
      read_gets tied.votes v c.place step_q source core.descriptor (update_of core.status) old.device.sizes tied.media ends.flight event.buf (valid_of old tied.write tied.orderly) tied.good tied.describes
      (at_q past old new at event.row true event.buf tied event.returns event.own c event.is_open) is_copy is_reading (ends.reads refl moves.write_is) lv b over

  abbrev next : Queued
  next = reading step_q source Well (Some value)

  abbrev was : ModelState
  was = copied v v.media.block v.open_copy None

  stands : Stands tied.votes core.descriptor (update_of core.status) (now past old new at event.row true event.buf tied event.returns event.own c event.is_open) (record was { queue = put v.queue c.place next })
  stands = quiet tied.votes core.descriptor (update_of core.status) (now past old new at event.row true event.buf tied event.returns event.own c event.is_open) (Read c.place step_q source Well (Some value)) was (record was { queue = put v.queue c.place next }) (
    record {
      there = at_q past old new at event.row true event.buf tied event.returns event.own c event.is_open;
      read = seen_step.write;
      past = ap is_past its_hand.0;
      was = (Flying, its_hand.1);
      gets = λ x is. inr (λ lv b over. let same : value ≡ x = (let e : Some value ≡ Some x = is in cc) in sym (ap (λ (y : ℕ → Sector). y b) same) ∙ gets lv b over);
    },
    refl,
  ) tt refl refl refl (read_stands past old new at event.row true event.buf tied event.returns event.own c event.is_open source event.reads)

  abbrev d : OpenCopy
  d = record c { step = step.Read event.buf }

  -- the source has done well
  failed_still : (p : Pp) → next.targets p ≡ Some Badly → has c.tried p.disk ≡ true
  failed_still p = by (is_pp p source)
    where
      by : (b : Bool) → (if b then Some Well else step_q.targets p) ≡ Some Badly → has c.tried p.disk ≡ true
      by true bad = absurd (cc bad)
      by false bad = seen_step.failed p bad

  pub read_tied : IsTied past new
  read_tied =
      let whole : new ≡ state new.device (after_read core at c event.buf) = λ t. record { device = new.device; core = event.is t } in
      subst (IsTied past) (sym whole)
      (going_ties past old new at event.row true event.buf tied event.returns event.own c event.is_open (step.Read event.buf) c.tried core.pool
      (landed_read past old new at event.row true event.buf tied event.returns event.own c event.is_open source event.reads) next refl (λ t. event.runs t && not (part t))
      (record { lv = seen_step.lv; first = seen_step.first; count = seen_step.count; write = seen_step.write; step = seen_step.step; hand = (refl, value, refl, λ b. refl); failed = failed_still })
      stands (subst IsSound whole sound))

pub copy_read_end_ties : CopyReadEndTies
copy_read_end_ties at past old new tied sound event = read_tied past old new at tied sound event
