-- The read by which a copy is brought up fails: another source follows, or the copy ends.
use Rattle.std.proofs.Common.{◌≡◌, inl, inr, ⊎_elim, ℕ, Bool, true, false, ◌&&◌, ◌||◌, ◌==◌, not, if◌then◌else◌, List, Option, Some, None, refl, sym, ap, subst, ◌∙◌}
use Rattle.std.specs.Prelude.{slice_set}
use Rattle.std.proofs.lemmas.Bool.{eq-eqb}
use Rattle.lvm_num.specs.declared.place.Pp.{Pp}
use Rattle.lvm_num.specs.Disks.{has}
use Rattle.lvm_vol.specs.Facts.{Fact}
use Rattle.lvm_num.specs.Descriptor.{is_pp}
use Rattle.lvm_num.proofs.Booleans.{clash_gives}
use Rattle.lvm_status.specs.Update.{Stored}
use Rattle.lvm_session.specs.declared.bringing.OpenCopy.{OpenCopy}
use Rattle.lvm_session.specs.declared.bringing.CopyEnd.{CopyEnd}
use Rattle.lvm_session.specs.declared.bringing.Step.TheVariants as step
use Rattle.lvm_session.specs.State.{Core, State, state}
use Rattle.lvm_session.specs.Bringing.{is_held_stale, copy_ends, is_done_end, is_idle, is_whole, marked_by_end, with_copy_end, with_end}
use Rattle.lvm_session.specs.Ends.{with_copy, with_return}
use Rattle.lvm_session.specs.Marks.{is_entailed}
use Rattle.lvm_session.specs.Sound.{IsSound}
use Rattle.lvm_keeps_events.specs.Ends.{EndsMiss}
use Rattle.lvm_invariant.specs.State.{Badly, Flying, Queued, ModelState, is_past}
use Rattle.lvm_invariant.specs.CopyWrite.{copied}
use Rattle.lvm_invariant.specs.Events.{Read}
use Rattle.lvm_invariant.specs.Read.{reading}
use Rattle.lvm_invariant.specs.Updates.{put}
use Rattle.lvm_crash.proofs.WritingLemmas.{pp_same}
use Rattle.lvm_tie.specs.Seen.{SeesHand, SeesStep, update_of}
use Rattle.lvm_tie.specs.Tied.{IsTied}
use Rattle.lvm_tie.proofs.StateLemmas.{copy_is}
use Rattle.lvm_tie.proofs.AmongLemmas.{or_either, or_true, and_false}
use Rattle.lvm_tie.proofs.StepsLemmas.Leaving.{Stands, quiet}
use Rattle.lvm_tie.proofs.StepsLemmas.Landed.{at_q, hand, landed_read, now, q, read_stands, sees}
use Rattle.lvm_tie.proofs.StepsLemmas.Stepped.{ended_ties, going_ties, wanted_stale}
use Rattle.lvm_tie.specs.Steps.{CopyMissTies}

module _ (past : List Fact) (old new : State) (at : ℕ) (tied : IsTied past old) (sound : IsSound new) (event : EndsMiss old new at) where
  abbrev core : Core
  core = old.core

  abbrev v : ModelState
  v = tied.view

  abbrev c : OpenCopy
  c = event.copy

  abbrev d : OpenCopy
  d = record c { step = step.Idle; tried = event.misses.tried }

  abbrev mid : Core
  mid = with_copy (with_return core at event.buf) d

  part : is_whole core c ≡ false
  part = (copy_is past old tied c event.is_open).under_way event.runs (ap is_idle event.reads)

  -- nothing more is wanted
  unmarked : (e : Option CopyEnd) (p : Pp) → marked_by_end mid e p ≡ false
  unmarked None p = refl
  unmarked (Some how) p = ap (λ b. not (is_done_end how) && (b && is_pp p c.pp && (not c.moves || is_held_stale mid c.pp))) part ∙ and_false (not (is_done_end how))

  same : new.core.status ≡ core.status
  same = event.misses.reviews.marks.same (λ p due. ⊎_elim
      (λ (entailed : is_entailed mid p ≡ true). (tied.orderly.sound.on tied.orderly.on).going.behind p entailed)
      (λ marked. clash_gives (marked_by_end mid (copy_ends mid) p) marked (unmarked (copy_ends mid) p))
      (or_either (is_entailed mid p) (marked_by_end mid (copy_ends mid) p) due))

  core_is : (e : Option CopyEnd) → copy_ends mid ≡ e → new.core ≡ with_end mid e
  core_is e is = event.misses.reviews.is ∙ ap (λ (m : Option CopyEnd). record (with_end mid m) { status = new.core.status }) is ∙ ap (λ (s : Stored). record (with_end mid e) { status = s }) same ∙ own e
    where
      own : (m : Option CopyEnd) → record (with_end mid m) { status = core.status } ≡ with_end mid m
      own None = refl
      own (Some how) = refl

  abbrev step_q : Queued
  step_q = q past old new at event.row false event.buf tied event.returns event.own c event.is_open

  seen_step : SeesStep core c step_q
  seen_step = sees past old new at event.row false event.buf tied event.returns event.own c event.is_open

  its_hand : SeesHand (step.Reading event.source) step_q
  its_hand = hand past old new at event.row false event.buf tied event.returns event.own c event.is_open (step.Reading event.source) event.reads

  abbrev next : Queued
  next = reading step_q event.source Badly None

  abbrev was : ModelState
  was = copied v v.media.block v.open_copy None

  stands : Stands tied.votes core.descriptor (update_of core.status) (now past old new at event.row false event.buf tied event.returns event.own c event.is_open) (record was { queue = put v.queue c.place next })
  stands = quiet tied.votes core.descriptor (update_of core.status) (now past old new at event.row false event.buf tied event.returns event.own c event.is_open) (Read c.place step_q event.source Badly None) was (record was { queue = put v.queue c.place next }) (
    record {
      there = at_q past old new at event.row false event.buf tied event.returns event.own c event.is_open;
      read = seen_step.write;
      past = ap is_past its_hand.0;
      was = (Flying, its_hand.1);
      gets = λ x is. absurd (cc is);
    },
    refl,
  ) tt refl refl refl (read_stands past old new at event.row false event.buf tied event.returns event.own c event.is_open event.source event.reads)

  -- the source is tried now
  failed_now : (p : Pp) → next.targets p ≡ Some Badly → has event.misses.tried p.disk ≡ true
  failed_now p bad = event.misses.tries p.disk ∙ by (is_pp p event.source) refl bad
    where
      by : (b : Bool) → is_pp p event.source ≡ b → (if b then Some Badly else step_q.targets p) ≡ Some Badly → (has c.tried p.disk || p.disk == event.source.disk) ≡ true
      by true same e = or_true (has c.tried p.disk) (p.disk == event.source.disk) (inr (eq-eqb p.disk event.source.disk (ap (λ (x : Pp). x.disk) (pp_same p event.source same))))
      by false other e = or_true (has c.tried p.disk) (p.disk == event.source.disk) (inl (seen_step.failed p e))

  by_end : (e : Option CopyEnd) → copy_ends mid ≡ e → IsTied past new
  by_end None is =
      let whole : new ≡ state new.device mid = λ t. record { device = new.device; core = core_is None is t } in
      subst (IsTied past) (sym whole)
      (going_ties past old new at event.row false event.buf tied event.returns event.own c event.is_open step.Idle event.misses.tried (slice_set core.pool event.buf.number false)
      (landed_read past old new at event.row false event.buf tied event.returns event.own c event.is_open event.source event.reads) next refl (λ t. event.runs t && not (part t))
      (record { lv = seen_step.lv; first = seen_step.first; count = seen_step.count; write = seen_step.write; step = seen_step.step; hand = (refl, refl); failed = failed_now })
      stands (subst IsSound whole sound))
  by_end (Some how) is =
      let after : Core = with_end mid (Some how) in
      let whole : new ≡ state new.device after = λ t. record { device = new.device; core = core_is (Some how) is t } in
      subst (IsTied past) (sym whole)
      (ended_ties past old new at event.row false event.buf tied event.returns event.own c event.is_open (with_copy_end d how) (slice_set core.pool event.buf.number false) after.queue
      (landed_read past old new at event.row false event.buf tied event.returns event.own c event.is_open event.source event.reads)
      (wanted_stale past old new at event.row false event.buf tied event.returns event.own c event.is_open event.runs part) refl refl (record { moves = refl; lv = refl; lp = refl; pp = refl }) (subst IsSound whole sound))

pub copy_miss_ties : CopyMissTies
copy_miss_ties at past old new tied sound event = by_end past old new at tied sound event (copy_ends (mid past old new at tied sound event)) refl
