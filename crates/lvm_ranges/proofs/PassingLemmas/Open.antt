-- A copy that is open stays open while turns go on, doesn't end with the session, and ends as done only where it is cleared.
use Rattle.std.proofs.Common.{◌≡◌, ◌⊎◌, inl, inr, ℕ, Bool, true, false, ◌&&◌, ◌||◌, ◌==◌, ◌+◌, not, Option, Some, None, length, if◌then◌else◌, refl, sym, ap, subst, ◌∙◌}
use Rattle.std.specs.Prelude.{IfSome, is_none}
use Rattle.std.specs.Option.{option_map_or}
use Rattle.lvm_num.specs.declared.place.Pp.{Pp}
use Rattle.lvm_num.specs.Buffer.{Buffer}
use Rattle.lvm_session.specs.declared.answers.CopyState.TheVariants as copy
use Rattle.lvm_session.specs.declared.answers.Turned.{Turned}
use Rattle.lvm_session.specs.declared.answers.Turned.TheVariants as turned
use Rattle.lvm_session.specs.declared.bringing.CopyEnd.{CopyEnd}
use Rattle.lvm_session.specs.declared.bringing.CopyEnd.TheVariants as ending
use Rattle.lvm_session.specs.declared.bringing.OpenCopy.{OpenCopy}
use Rattle.lvm_session.specs.declared.bringing.Step.{Step}
use Rattle.lvm_session.specs.declared.bringing.Step.TheVariants as step
use Rattle.lvm_session.specs.declared.event.Event.{Event}
use Rattle.lvm_session.specs.declared.event.Event.TheVariants as event
use Rattle.lvm_session.specs.declared.flown.Owner.{Owner}
use Rattle.lvm_session.specs.declared.flown.Owner.TheVariants as owner
use Rattle.lvm_session.specs.declared.open.Power.TheVariants as power
use Rattle.lvm_session.specs.Bringing.{after_copy_end, copy_ends, end_of, ends_if, is_cleared, is_idle, is_out, is_whole, next_source, sources_of, step_place, with_copy_end, with_end}
use Rattle.lvm_session.specs.Calls.{copy_state, state_at_end, state_of_copy}
use Rattle.lvm_session.specs.Ends.{CopyLearns, CopyStepsOn, Learns, NoteLearns, StepLearns, StepLeaves, after_data, learned, with_copy, with_return, without_step}
use Rattle.lvm_session.specs.Judging.{is_held_stale, is_missing, is_running, is_wanted_stale, stays_fresh}
use Rattle.lvm_session.specs.Marks.{Reviews, end_by_write, hits_copy}
use Rattle.lvm_session.specs.Sound.{IsCopy, IsSound}
use Rattle.lvm_session.specs.State.{Core, State}
use Rattle.lvm_session.specs.Turns.{FinishMakes, Finishes, Makes, Moves, NoStart, OnMakes, TurnMakes, WasDark, WasOff, WasOn}
use Rattle.lvm_keeps.proofs.StateLemmas.{state_brought}
use Rattle.lvm_ranges.specs.passed.KeepsEvents.{is_marked}
use Rattle.lvm_ranges.proofs.passed.KeepsEvents.{reviewed}
use Rattle.lvm_ranges.specs.Passing.{IsSameCopy, Runs}

-- no transfer of it is out, and it is stale by nothing
abbrev pub IsCleared : Core → OpenCopy → Type 0
IsCleared core c = (is_out c.step ≡ false) × (is_marked core c.pp ≡ false)

-- The one that was opened so is open, and didn't end with the session; where it is done it is cleared.
pub record IsOpenStill (begun : OpenCopy) (core : Core) : Type 0 where
  pub copy : OpenCopy
  pub is_open : core.copy ≡ Some copy
  pub its : IsSameCopy begun copy
  pub brings : begun.moves ≡ false
  pub goes : copy.end ≡ Some ending.Ended → ⊥
  pub cleared : copy.end ≡ Some ending.Done → IsCleared core copy

-- So it is, and isn't done.
pub record IsUndone (begun : OpenCopy) (core : Core) : Type 0 where
  pub copy : OpenCopy
  pub is_open : core.copy ≡ Some copy
  pub its : IsSameCopy begun copy
  pub brings : begun.moves ≡ false
  pub goes : copy.end ≡ Some ending.Ended → ⊥
  pub undone : copy.end ≡ Some ending.Done → ⊥

still : (begun : OpenCopy) (core : Core) → IsUndone begun core → IsOpenStill begun core
still begun core it = record { copy = it.copy; is_open = it.is_open; its = it.its; brings = it.brings; goes = it.goes; cleared = λ e. absurd (it.undone e) }

pub just_opened : (core : Core) (c : OpenCopy) → core.copy ≡ Some c → c.end ≡ None → c.moves ≡ false → IsOpenStill c core
just_opened core c is runs stays = record { copy = c; is_open = is; its = (refl, refl, refl, refl, refl, refl); brings = stays; goes = λ e. (let f : None ≡ Some ending.Ended = sym runs ∙ e in cc f); cleared = λ e. absurd (let f : None ≡ Some ending.Done = sym runs ∙ e in cc f) }

-- while it runs it isn't done
undone_of : (begun : OpenCopy) (core : Core) → IsOpenStill begun core → Runs core → IsUndone begun core
undone_of begun core it runs = record { copy = it.copy; is_open = it.is_open; its = it.its; brings = it.brings; goes = it.goes; undone = λ e. not_done e (it.cleared e).0 }
  where
    state : copy_state core ≡ state_of_copy core it.copy
    state = ap (λ m. option_map_or (state_of_copy core) m copy.Closed) it.is_open

    not_done : it.copy.end ≡ Some ending.Done → is_out it.copy.step ≡ false → ⊥
    not_done e rests =
        let done : state_of_copy core it.copy ≡ copy.Done = state_brought core it.copy (it.its.5 ∙ it.brings) ∙ ap (λ b. if b then copy.Running it.copy.cursor else option_map_or (state_at_end it.copy) it.copy.end (copy.Running it.copy.cursor)) rests
        ∙ ap (λ m. option_map_or (state_at_end it.copy) m (copy.Running it.copy.cursor)) e in
        let f : copy.Done ≡ copy.Running runs.0 = sym done ∙ sym state ∙ runs.1 in cc f

-- ---- an end of it

module _ (begun : OpenCopy) where
  same_copy : (old new : Core) → new.copy ≡ old.copy → IsUndone begun old → IsUndone begun new
  same_copy old new same it = record { copy = it.copy; is_open = same ∙ it.is_open; its = it.its; brings = it.brings; goes = it.goes; undone = it.undone }

  -- it is now this one
  abbrev put : begun.moves ≡ false → (core : Core) (c : OpenCopy) → core.copy ≡ Some c → IsSameCopy begun c → (c.end ≡ Some ending.Ended → ⊥) → (c.end ≡ Some ending.Done → ⊥) → IsUndone begun core
  put brings core c is its goes undone = record { copy = c; is_open = is; its = its; brings = brings; goes = goes; undone = undone }

  -- it fails, where this is so
  fail_open : (core : Core) (b : Bool) → IsUndone begun core → IsUndone begun (with_end core (ends_if b ending.SyncFailed))
  fail_open core false it = it
  fail_open core true it = put it.brings _ (with_copy_end it.copy ending.SyncFailed) (ap (λ m. (option_map_or (λ (c : OpenCopy). after_copy_end core c ending.SyncFailed) m core).copy) it.is_open) it.its (λ e. cc e) (λ e. cc e)

-- the state as a whole never ends it with the session
end_of_not : (core : Core) (c : OpenCopy) → end_of core c ≡ Some ending.Ended → ⊥
end_of_not core c = by (is_running c) (is_missing core c.pp.disk) (is_whole core c) (is_cleared core c) (length (sources_of core c) == 0) (is_idle c.step && is_none (next_source core c))
  where
    if_not : (b : Bool) (how : CopyEnd) → (how ≡ ending.Ended → ⊥) → ends_if b how ≡ Some ending.Ended → ⊥
    if_not true how other e = other (cc e)
    if_not false how other e = cc e

    by : (r m w k z i : Bool) → (if not r then None else if m then Some ending.SyncFailed else if w then ends_if k ending.Done else if z then Some ending.NoFresh else ends_if i ending.SyncFailed) ≡ Some ending.Ended → ⊥
    by false m w k z i e = cc e
    by true true w k z i e = cc e
    by true false true k z i e = if_not k ending.Done (λ f. cc f) e
    by true false false k true i e = cc e
    by true false false k false i e = if_not i ending.SyncFailed (λ f. cc f) e

-- one that it makes done is whole, on a disk that isn't missing, and cleared
pub record IsDone (core : Core) (c : OpenCopy) : Type 0 where
  pub runs : is_running c ≡ true
  pub there : is_missing core c.pp.disk ≡ false
  pub whole : is_whole core c ≡ true
  pub fresh : is_cleared core c ≡ true

done_by : (core : Core) (c : OpenCopy) → end_of core c ≡ Some ending.Done → IsDone core c
done_by core c e = by (is_running c) (is_missing core c.pp.disk) (is_whole core c) (is_cleared core c) (length (sources_of core c) == 0) (is_idle c.step && is_none (next_source core c)) refl refl refl refl e
  where
    by : (r m w k z i : Bool) → is_running c ≡ r → is_missing core c.pp.disk ≡ m → is_whole core c ≡ w → is_cleared core c ≡ k
        → (if not r then None else if m then Some ending.SyncFailed else if w then ends_if k ending.Done else if z then Some ending.NoFresh else ends_if i ending.SyncFailed) ≡ Some ending.Done → IsDone core c
    by false m w k z i a b d f g = absurd (cc g)
    by true true w k z i a b d f g = absurd (cc g)
    by true false true true z i a b d f g = record { runs = a; there = b; whole = d; fresh = f }
    by true false true false z i a b d f g = absurd (cc g)
    by true false false k true i a b d f g = absurd (cc g)
    by true false false k false true a b d f g = absurd (cc g)
    by true false false k false false a b d f g = absurd (cc g)

-- ---- a review

module _ (begun : OpenCopy) (old new : Core) (it : Reviews old new) (was : IsUndone begun old) (rests : is_running was.copy ≡ true → is_whole old was.copy ≡ true → is_out was.copy.step ≡ false) where
  ends : copy_ends old ≡ end_of old was.copy
  ends = ap (λ m. option_map_or (end_of old) m None) was.is_open

  copy_is : (m : Option CopyEnd) → end_of old was.copy ≡ m → new.copy ≡ (with_end old m).copy
  copy_is m is = ap (λ (k : Core). k.copy) it.is ∙ ap (λ (e : Option CopyEnd). (with_end old e).copy) (ends ∙ is)

  -- what is cleared stays unmarked
  unmarked : IsDone old was.copy → is_marked new was.copy.pp ≡ false
  unmarked done = by (is_marked new was.copy.pp) refl
    where
      q : Pp
      q = was.copy.pp

      second : (a b : Bool) → a && b ≡ true → b ≡ true
      second true b e = e
      second false b e = absurd (cc e)

      clear : (a w : Bool) → not a && not w ≡ true → a || w ≡ false
      clear true w e = cc e
      clear false true e = cc e
      clear false false e = refl

      before : is_marked old q ≡ false
      before = clear (is_held_stale old q) (is_wanted_stale old q) (second (not was.copy.moves) (stays_fresh old q) done.fresh)

      of : (is_marked old q ≡ true) ⊎ (is_missing new q.disk ≡ true) → true ≡ false
      of (inl e) = sym e ∙ before
      of (inr e) = sym e ∙ it.marks.missing q.disk ∙ done.there

      by : (b : Bool) → is_marked new q ≡ b → b ≡ false
      by false e = refl
      by true e = of ((reviewed old new it).marked q e)

  review_open : IsOpenStill begun new
  review_open = by (end_of old was.copy) refl
    where
      by : (m : Option CopyEnd) → end_of old was.copy ≡ m → IsOpenStill begun new
      by None is = still begun new (same_copy begun old new (copy_is None is) was)
      by (Some how) is = record {
        copy = with_copy_end was.copy how;
        is_open = copy_is (Some how) is ∙ ap (λ m. (option_map_or (λ (c : OpenCopy). after_copy_end old c how) m old).copy) was.is_open;
        its = was.its;
        brings = was.brings;
        goes = λ e. end_of_not old was.copy (is ∙ e);
        cleared = λ e. let done = done_by old was.copy (is ∙ e) in (ap (λ b. is_out (if b then was.copy.step else step.Idle)) (rests done.runs done.whole), unmarked done);
      }

-- ---- a transfer ends

module _ (begun : OpenCopy) (old : State) (sound : IsSound old) (on : old.core.power ≡ power.On) (was : IsUndone begun old.core) where
  bring : IsCopy old.core was.copy
  bring = subst (λ m. IfSome m (IsCopy old.core)) was.is_open ((sound.on on).going).copy

  -- one that is whole has no transfer out
  rests : is_running was.copy ≡ true → is_whole old.core was.copy ≡ true → is_out was.copy.step ≡ false
  rests runs whole = by was.copy.step refl
    where
      busy : (s : Step) → was.copy.step ≡ s → is_idle s ≡ false → {X : Type 0} → X
      busy s is moves = absurd (let e : true ≡ false = sym whole ∙ bring.under_way runs (ap is_idle is ∙ moves) in cc e)

      by : (s : Step) → was.copy.step ≡ s → is_out s ≡ false
      by step.Idle is = refl
      by (step.Reading source) is = busy (step.Reading source) is refl
      by (step.Read buf) is = refl
      by step.Writing is = busy step.Writing is refl

  note_open : (new : Core) (at disk : ℕ) (ok : Bool) (buf : Buffer) → NoteLearns old.core at disk ok buf new → IsOpenStill begun new
  note_open new at disk true buf it = still begun new (same_copy begun old.core new (ap (λ (c : Core). c.copy) it) was)
  note_open new at disk false buf it = review_open begun _ new it.2 (put begun was.brings _ was.copy was.is_open was.its was.goes was.undone) rests

  goes_on : (b : Bool) (core : Core) (c : OpenCopy) (next : Core) → CopyStepsOn b core c next → next.copy ≡ Some c
  goes_on false core c next it = ap (λ (x : Core). x.copy) it
  goes_on true core c next it = ap (λ (x : Core). x.copy) it.1

  module _ (c : OpenCopy) (same : was.copy ≡ c) where
    its : IsSameCopy begun c
    its = subst (IsSameCopy begun) same was.its

    goes : c.end ≡ Some ending.Ended → ⊥
    goes e = was.goes (ap (λ (k : OpenCopy). k.end) same ∙ e)

    undone : c.end ≡ Some ending.Done → ⊥
    undone e = was.undone (ap (λ (k : OpenCopy). k.end) same ∙ e)

    step_open : (at_step : Step) (ok : Bool) (new : Core) (at : ℕ) (buf : Buffer) → StepLeaves at_step ok old.core at c buf new → IsOpenStill begun new
    step_open step.Idle ok new at buf it = absurd it
    step_open (step.Read hand) ok new at buf it = absurd it
    step_open (step.Reading source) true new at buf it = still begun new (put begun was.brings new _ (ap (λ (x : Core). x.copy) it) its goes undone)
    step_open (step.Reading source) false new at buf it = review_open begun _ new it.reviews (put begun was.brings _ (record c { step = step.Idle; tried = it.tried }) refl its goes undone) (λ runs whole. refl)
    step_open step.Writing true new at buf it = review_open begun it.on new it.reviews (put begun was.brings it.on (record c { cursor = c.cursor + 1; step = step.Idle; tried = it.next.tried; place = step_place (without_step (with_return old.core at buf) c) }) (goes_on (is_whole (without_step (with_return old.core at buf) c) it.next) (without_step (with_return old.core at buf) c) it.next it.on it.goes ∙ ap (λ (k : OpenCopy). Some k) it.moves.is) its goes undone) (λ runs whole. refl)
    step_open step.Writing false new at buf it = still begun new (same_copy begun (with_end (with_copy (with_return old.core at buf) (record c { step = step.Idle })) (ends_if true ending.SyncFailed)) new (ap (λ (x : Core). x.copy) it.is)
        (fail_open begun (with_copy (with_return old.core at buf) (record c { step = step.Idle })) true (put begun was.brings (with_copy (with_return old.core at buf) (record c { step = step.Idle })) (record c { step = step.Idle }) refl its goes undone)))

  copy_open : (new : Core) (at : ℕ) (ok : Bool) (buf : Buffer) → CopyLearns old.core at ok buf new → IsOpenStill begun new
  copy_open new at ok buf it = by (is_running it.copy) it.learns
    where
      same : was.copy ≡ it.copy
      same = let e : Some was.copy ≡ Some it.copy = sym was.is_open ∙ it.is_open in cc e

      by : (b : Bool) → StepLearns b old.core at it.copy ok buf new → IsOpenStill begun new
      by true leaves = step_open it.copy same it.copy.step ok new at buf leaves
      by false quits = still begun new (put begun was.brings new _ (ap (λ (x : Core). x.copy) quits) (its it.copy same) (goes it.copy same) (undone it.copy same))

  learned_open : (whose : Owner) (ok : Bool) (new : Core) (at : ℕ) (buf : Buffer) → Learns whose old.core at ok buf new → IsOpenStill begun new
  learned_open (owner.Data id target) ok new at buf it =
      still begun new (same_copy begun (with_end after (end_by_write after (learned it.its.request target ok buf) ok it.its.aim.pp)) new (ap (λ (c : Core). c.copy) it.entails.is)
      (fail_open begun after (option_map_or (hits_copy after (learned it.its.request target ok buf) ok it.its.aim.pp) after.copy false) (put begun was.brings after was.copy was.is_open was.its was.goes was.undone)))
    where
      after : Core
      after = after_data old.core at it.place it.its.request target ok buf
  learned_open (owner.Status disk) ok new at buf it = review_open begun _ new it.reviews (put begun was.brings _ was.copy was.is_open was.its was.goes was.undone) rests
  learned_open (owner.Note disk) ok new at buf it = note_open new at disk ok buf it
  learned_open owner.Copy ok new at buf it = copy_open new at ok buf it

  -- ---- an event is made

  event_open : (it : Event) (new : State) → Makes it old new → IsUndone begun new.core
  event_open (event.Land place how) new made = same_copy begun old.core new.core (ap (λ (s : State). s.core.copy) made.is) was
  event_open (event.Admit place) new made = same_copy begun old.core new.core (ap (λ (s : State). s.core.copy) made.is) was
  event_open (event.Pin place) new made = same_copy begun old.core new.core (ap (λ (s : State). s.core.copy) made.is) was
  event_open event.StartStatus new made = same_copy begun old.core new.core (ap (λ (s : State). s.core.copy) made.is) was
  event_open (event.StartNote place disk) new made = same_copy begun old.core new.core (ap (λ (s : State). s.core.copy) made.is) was
  event_open (event.StartData place target) new made = same_copy begun old.core new.core (ap (λ (s : State). s.core.copy) made.is) was
  event_open event.ReadCopy new made =
      let same : was.copy ≡ made.copy = (let e : Some was.copy ≡ Some made.copy = sym was.is_open ∙ made.is_open in cc e) in
      put begun was.brings new.core _ (ap (λ (s : State). s.core.copy) made.is) (its made.copy same) (goes made.copy same) (undone made.copy same)
  event_open event.WriteCopy new made =
      let same : was.copy ≡ made.copy = (let e : Some was.copy ≡ Some made.copy = sym was.is_open ∙ made.is_open in cc e) in
      put begun was.brings new.core _ (ap (λ (s : State). s.core.copy) made.is) (its made.copy same) (goes made.copy same) (undone made.copy same)

  -- ---- a turn

  module _ (new : State) (goes_still : new.core.power ≡ power.On) where
    dark_not : {X : Type 0} → new.core.power ≡ power.Dark → X
    dark_not is = absurd (let e : power.Dark ≡ power.On = sym is ∙ goes_still in cc e)

    finish_open : (answer : Turned) → FinishMakes old new answer → IsOpenStill begun new.core
    finish_open turned.Moved made = learned_open made.1.row.owner made.1.ok new.core made.0 made.1.buf made.1.learns
    finish_open turned.Idle (inl finds) = still begun new.core (same_copy begun old.core new.core (ap (λ (c : Core). c.copy) finds.is) was)
    finish_open turned.Idle (inr nothing) = still begun new.core (same_copy begun old.core new.core (ap (λ (s : State). s.core.copy) nothing.is) was)
    finish_open turned.Dark made = dark_not (ap (λ (c : Core). c.power) made.1.is)
    finish_open turned.Off made = absurd (let e : power.Off ≡ power.On = sym (ap (λ (s : State). s.core.power) made.is) ∙ goes_still in cc e)

    on_open : (answer : Turned) → OnMakes old new answer → IsOpenStill begun new.core
    on_open answer (Moves it first made is) = still begun new.core (event_open it new made)
    on_open answer (NoStart it first start dark is) = dark_not (ap (λ (c : Core). c.power) dark.is)
    on_open answer (Finishes none made) = finish_open answer made

-- a session that goes on behind a turn that is made while it runs has it open still
pub turn_open : (begun : OpenCopy) (old new : State) → IsSound old → IsOpenStill begun old.core → Runs old.core → (answer : Turned) → TurnMakes old new answer → new.core.power ≡ power.On → IsOpenStill begun new.core
turn_open begun old new sound it runs answer (WasDark dark is same) on = absurd (let e : power.Dark ≡ power.On = sym dark ∙ sym (ap (λ (s : State). s.core.power) same) ∙ on in cc e)
turn_open begun old new sound it runs answer (WasOff off is same) on = absurd (let e : power.Off ≡ power.On = sym off ∙ sym (ap (λ (s : State). s.core.power) same) ∙ on in cc e)
turn_open begun old new sound it runs answer (WasOn was made) on = on_open begun old sound was (undone_of begun old.core it runs) new on answer made
