-- A copy that moves stays open while turns go on, and doesn't end with the session.
use Rattle.std.proofs.Common.{◌≡◌, ◌⊎◌, inl, inr, ℕ, Bool, true, false, ◌&&◌, ◌==◌, ◌+◌, not, Option, Some, None, length, if◌then◌else◌, refl, sym, ap, subst, ◌∙◌}
use Rattle.std.specs.Prelude.{is_none}
use Rattle.std.specs.Option.{option_map_or}
use Rattle.lvm_num.specs.Buffer.{Buffer}
use Rattle.lvm_disk.specs.Paths.{Here, Path, Then}
use Rattle.lvm_session.specs.declared.answers.Turned.{Turned}
use Rattle.lvm_session.specs.declared.answers.Turned.TheVariants as turned
use Rattle.lvm_session.specs.declared.bringing.CopyEnd.{CopyEnd}
use Rattle.lvm_session.specs.declared.bringing.CopyEnd.TheVariants as ending
use Rattle.lvm_session.specs.declared.bringing.OpenCopy.{OpenCopy}
use Rattle.lvm_session.specs.declared.bringing.Step.{Step}
use Rattle.lvm_session.specs.declared.bringing.Step.TheVariants as step
use Rattle.lvm_session.specs.declared.event.Event.{Event}
use Rattle.lvm_session.specs.declared.event.Event.TheVariants as event
use Rattle.lvm_session.specs.declared.flown.Owner.{Owner}
use Rattle.lvm_session.specs.declared.flown.Owner.TheVariants as owner
use Rattle.lvm_session.specs.declared.open.Power.TheVariants as power
use Rattle.lvm_session.specs.Bringing.{after_copy_end, copy_ends, end_of, ends_if, is_cleared, is_idle, is_out, is_whole, next_source, sources_of, step_place, with_copy_end, with_end}
use Rattle.lvm_session.specs.Ends.{CopyLearns, CopyStepsOn, Learns, NoteLearns, StepLearns, StepLeaves, after_data, learned, with_copy, with_return, without_step}
use Rattle.lvm_session.specs.Judging.{is_missing, is_running}
use Rattle.lvm_session.specs.Marks.{Reviews, end_by_write, hits_copy}
use Rattle.lvm_session.specs.State.{Core, State}
use Rattle.lvm_session.specs.Turns.{FinishMakes, Finishes, Makes, Moves, NoStart, OnMakes, TurnMakes, WasDark, WasOff, WasOn}
use Rattle.lvm_driver.specs.Drains.{IsTurn}
use Rattle.lvm_ranges.specs.Passing.{IsSameCopy}

-- The one that was opened so is open, and didn't end with the session.
pub record IsOpenMove (begun : OpenCopy) (core : Core) : Type 0 where
  pub copy : OpenCopy
  pub is_open : core.copy ≡ Some copy
  pub its : IsSameCopy begun copy
  pub goes : copy.end ≡ Some ending.Ended → ⊥

-- ---- an end of it

-- the state as a whole never ends it with the session
end_of_not : (core : Core) (c : OpenCopy) → end_of core c ≡ Some ending.Ended → ⊥
end_of_not core c = by (is_running c) (is_missing core c.pp.disk) (is_whole core c) (is_cleared core c) (length (sources_of core c) == 0) (is_idle c.step && is_none (next_source core c))
  where
    if_not : (b : Bool) (how : CopyEnd) → (how ≡ ending.Ended → ⊥) → ends_if b how ≡ Some ending.Ended → ⊥
    if_not true how other e = other (cc e)
    if_not false how other e = cc e

    by : (r m w k z i : Bool) → (if not r then None else if m then Some ending.SyncFailed else if w then ends_if k ending.Done else if z then Some ending.NoFresh else ends_if i ending.SyncFailed) ≡ Some ending.Ended → ⊥
    by false m w k z i e = cc e
    by true true w k z i e = cc e
    by true false true k z i e = if_not k ending.Done (λ f. cc f) e
    by true false false k true i e = cc e
    by true false false k false i e = if_not i ending.SyncFailed (λ f. cc f) e

module _ (begun : OpenCopy) where
  same_copy : (old new : Core) → new.copy ≡ old.copy → IsOpenMove begun old → IsOpenMove begun new
  same_copy old new same it = record { copy = it.copy; is_open = same ∙ it.is_open; its = it.its; goes = it.goes }

  -- it is now this one
  abbrev put : (core : Core) (c : OpenCopy) → core.copy ≡ Some c → IsSameCopy begun c → (c.end ≡ Some ending.Ended → ⊥) → IsOpenMove begun core
  put core c is its goes = record { copy = c; is_open = is; its = its; goes = goes }

  -- it fails, where this is so
  fail_open : (core : Core) (b : Bool) → IsOpenMove begun core → IsOpenMove begun (with_end core (ends_if b ending.SyncFailed))
  fail_open core false it = it
  fail_open core true it = put _ (with_copy_end it.copy ending.SyncFailed) (ap (λ m. (option_map_or (λ (c : OpenCopy). after_copy_end core c ending.SyncFailed) m core).copy) it.is_open) it.its (λ e. cc e)

-- ---- a review

module _ (begun : OpenCopy) (old new : Core) (it : Reviews old new) (was : IsOpenMove begun old) where
  ends : copy_ends old ≡ end_of old was.copy
  ends = ap (λ m. option_map_or (end_of old) m None) was.is_open

  copy_is : (m : Option CopyEnd) → end_of old was.copy ≡ m → new.copy ≡ (with_end old m).copy
  copy_is m is = ap (λ (k : Core). k.copy) it.is ∙ ap (λ (e : Option CopyEnd). (with_end old e).copy) (ends ∙ is)

  review_open : IsOpenMove begun new
  review_open = by (end_of old was.copy) refl
    where
      by : (m : Option CopyEnd) → end_of old was.copy ≡ m → IsOpenMove begun new
      by None is = same_copy begun old new (copy_is None is) was
      by (Some how) is = put begun new (with_copy_end was.copy how) (copy_is (Some how) is ∙ ap (λ m. (option_map_or (λ (c : OpenCopy). after_copy_end old c how) m old).copy) was.is_open) was.its
          (λ e. end_of_not old was.copy (is ∙ e))

-- ---- a transfer ends

module _ (begun : OpenCopy) (old : State) (was : IsOpenMove begun old.core) where
  note_open : (new : Core) (at disk : ℕ) (ok : Bool) (buf : Buffer) → NoteLearns old.core at disk ok buf new → IsOpenMove begun new
  note_open new at disk true buf it = same_copy begun old.core new (ap (λ (c : Core). c.copy) it) was
  note_open new at disk false buf it = review_open begun _ new it.2 (put begun _ was.copy was.is_open was.its was.goes)

  goes_on : (b : Bool) (core : Core) (c : OpenCopy) (next : Core) → CopyStepsOn b core c next → next.copy ≡ Some c
  goes_on false core c next it = ap (λ (x : Core). x.copy) it
  goes_on true core c next it = ap (λ (x : Core). x.copy) it.1

  module _ (c : OpenCopy) (same : was.copy ≡ c) where
    its : IsSameCopy begun c
    its = subst (IsSameCopy begun) same was.its

    goes : c.end ≡ Some ending.Ended → ⊥
    goes e = was.goes (ap (λ (k : OpenCopy). k.end) same ∙ e)

    step_open : (at_step : Step) (ok : Bool) (new : Core) (at : ℕ) (buf : Buffer) → StepLeaves at_step ok old.core at c buf new → IsOpenMove begun new
    step_open step.Idle ok new at buf it = absurd it
    step_open (step.Read hand) ok new at buf it = absurd it
    step_open (step.Reading source) true new at buf it = put begun new _ (ap (λ (x : Core). x.copy) it) its goes
    step_open (step.Reading source) false new at buf it = review_open begun _ new it.reviews (put begun _ (record c { step = step.Idle; tried = it.tried }) refl its goes)
    step_open step.Writing true new at buf it = review_open begun it.on new it.reviews (put begun it.on (record c { cursor = c.cursor + 1; step = step.Idle; tried = it.next.tried; place = step_place (without_step (with_return old.core at buf) c) }) (goes_on (is_whole (without_step (with_return old.core at buf) c) it.next) (without_step (with_return old.core at buf) c) it.next it.on it.goes ∙ ap (λ (k : OpenCopy). Some k) it.moves.is) its goes)
    step_open step.Writing false new at buf it = same_copy begun (with_end (with_copy (with_return old.core at buf) (record c { step = step.Idle })) (ends_if true ending.SyncFailed)) new (ap (λ (x : Core). x.copy) it.is)
        (fail_open begun (with_copy (with_return old.core at buf) (record c { step = step.Idle })) true (put begun (with_copy (with_return old.core at buf) (record c { step = step.Idle })) (record c { step = step.Idle }) refl its goes))

  copy_open : (new : Core) (at : ℕ) (ok : Bool) (buf : Buffer) → CopyLearns old.core at ok buf new → IsOpenMove begun new
  copy_open new at ok buf it = by (is_running it.copy) it.learns
    where
      same : was.copy ≡ it.copy
      same = let e : Some was.copy ≡ Some it.copy = sym was.is_open ∙ it.is_open in cc e

      by : (b : Bool) → StepLearns b old.core at it.copy ok buf new → IsOpenMove begun new
      by true leaves = step_open it.copy same it.copy.step ok new at buf leaves
      by false quits = put begun new _ (ap (λ (x : Core). x.copy) quits) (its it.copy same) (goes it.copy same)

  learned_open : (whose : Owner) (ok : Bool) (new : Core) (at : ℕ) (buf : Buffer) → Learns whose old.core at ok buf new → IsOpenMove begun new
  learned_open (owner.Data id target) ok new at buf it =
      same_copy begun (with_end after (end_by_write after (learned it.its.request target ok buf) ok it.its.aim.pp)) new (ap (λ (c : Core). c.copy) it.entails.is)
      (fail_open begun after (option_map_or (hits_copy after (learned it.its.request target ok buf) ok it.its.aim.pp) after.copy false) (put begun after was.copy was.is_open was.its was.goes))
    where
      after : Core
      after = after_data old.core at it.place it.its.request target ok buf
  learned_open (owner.Status disk) ok new at buf it = review_open begun _ new it.reviews (put begun _ was.copy was.is_open was.its was.goes)
  learned_open (owner.Note disk) ok new at buf it = note_open new at disk ok buf it
  learned_open owner.Copy ok new at buf it = copy_open new at ok buf it

  -- ---- an event is made

  event_open : (it : Event) (new : State) → Makes it old new → IsOpenMove begun new.core
  event_open (event.Land place how) new made = same_copy begun old.core new.core (ap (λ (s : State). s.core.copy) made.is) was
  event_open (event.Admit place) new made = same_copy begun old.core new.core (ap (λ (s : State). s.core.copy) made.is) was
  event_open (event.Pin place) new made = same_copy begun old.core new.core (ap (λ (s : State). s.core.copy) made.is) was
  event_open event.StartStatus new made = same_copy begun old.core new.core (ap (λ (s : State). s.core.copy) made.is) was
  event_open (event.StartNote place disk) new made = same_copy begun old.core new.core (ap (λ (s : State). s.core.copy) made.is) was
  event_open (event.StartData place target) new made = same_copy begun old.core new.core (ap (λ (s : State). s.core.copy) made.is) was
  event_open event.ReadCopy new made =
      let same : was.copy ≡ made.copy = (let e : Some was.copy ≡ Some made.copy = sym was.is_open ∙ made.is_open in cc e) in
      put begun new.core _ (ap (λ (s : State). s.core.copy) made.is) (its made.copy same) (goes made.copy same)
  event_open event.WriteCopy new made =
      let same : was.copy ≡ made.copy = (let e : Some was.copy ≡ Some made.copy = sym was.is_open ∙ made.is_open in cc e) in
      put begun new.core _ (ap (λ (s : State). s.core.copy) made.is) (its made.copy same) (goes made.copy same)

  -- ---- a turn

  module _ (new : State) (goes_still : new.core.power ≡ power.On) where
    dark_not : {X : Type 0} → new.core.power ≡ power.Dark → X
    dark_not is = absurd (let e : power.Dark ≡ power.On = sym is ∙ goes_still in cc e)

    finish_open : (answer : Turned) → FinishMakes old new answer → IsOpenMove begun new.core
    finish_open turned.Moved made = learned_open made.1.row.owner made.1.ok new.core made.0 made.1.buf made.1.learns
    finish_open turned.Idle (inl finds) = same_copy begun old.core new.core (ap (λ (c : Core). c.copy) finds.is) was
    finish_open turned.Idle (inr nothing) = same_copy begun old.core new.core (ap (λ (s : State). s.core.copy) nothing.is) was
    finish_open turned.Dark made = dark_not (ap (λ (c : Core). c.power) made.1.is)
    finish_open turned.Off made = absurd (let e : power.Off ≡ power.On = sym (ap (λ (s : State). s.core.power) made.is) ∙ goes_still in cc e)

    on_open : (answer : Turned) → OnMakes old new answer → IsOpenMove begun new.core
    on_open answer (Moves it first made is) = event_open it new made
    on_open answer (NoStart it first start dark is) = dark_not (ap (λ (c : Core). c.power) dark.is)
    on_open answer (Finishes none made) = finish_open answer made

-- a session that goes on behind a turn went on before, and has it open still
pub turn_on : (old new : State) (answer : Turned) → TurnMakes old new answer → new.core.power ≡ power.On → old.core.power ≡ power.On
turn_on old new answer (WasDark dark is same) on = ap (λ (s : State). s.core.power) (sym same) ∙ on
turn_on old new answer (WasOff off is same) on = ap (λ (s : State). s.core.power) (sym same) ∙ on
turn_on old new answer (WasOn was made) on = was

turn_open : (begun : OpenCopy) (old new : State) → IsOpenMove begun old.core → (answer : Turned) → TurnMakes old new answer → new.core.power ≡ power.On → IsOpenMove begun new.core
turn_open begun old new it answer (WasDark dark is same) on = subst (λ (s : State). IsOpenMove begun s.core) (sym same) it
turn_open begun old new it answer (WasOff off is same) on = subst (λ (s : State). IsOpenMove begun s.core) (sym same) it
turn_open begun old new it answer (WasOn was made) on = on_open begun old it new on answer made

pub turns_open : {P : State → Type 0} (begun : OpenCopy) {first last : State} → IsOpenMove begun first.core → Path IsTurn P first last → last.core.power ≡ power.On → IsOpenMove begun last.core
turns_open begun it (Here here) on = it
turns_open begun {last = last} it (Then {m = mid} path turn there) on =
    turn_open begun mid last (turns_open begun it path (turn_on mid last turn.0 turn.1 on)) turn.0 turn.1 on
