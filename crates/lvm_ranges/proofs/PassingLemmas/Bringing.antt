-- The copy that is open is brought up until it doesn't run.
use Rattle.lvm_ranges.proofs.passed.Going.{path_frames, goes_any}
use Rattle.std.proofs.Common.{◌||◌, ◌≡◌, inl, inr, ◌-◌, ℕ, Bool, true, false, Option, Some, None, if◌then◌else◌, refl, sym, ap, subst, ◌∙◌}
use Rattle.std.specs.Prelude.{IfSome}
use Rattle.std.specs.Option.{option_map_or}
use Rattle.lvm_disk.specs.Counts.{RoseBy}
use Rattle.lvm_session.specs.declared.answers.CopyState.TheVariants as copy
use Rattle.lvm_session.specs.declared.bringing.CopyEnd.{CopyEnd}
use Rattle.lvm_session.specs.declared.bringing.CopyEnd.TheVariants as ending
use Rattle.lvm_session.specs.declared.bringing.OpenCopy.{OpenCopy}
use Rattle.lvm_session.specs.declared.open.Power.TheVariants as power
use Rattle.lvm_session.specs.Bringing.{is_out}
use Rattle.lvm_session.specs.Calls.{closed, copy_state, state_at_end, state_of_copy, is_still_aimed}
use Rattle.lvm_session.specs.Judging.{is_missing, is_move_done}
use Rattle.lvm_disk.specs.Device.{Device}
use Rattle.lvm_session.specs.State.{Core, State, state}
use Rattle.lvm_session.specs.Sound.{IsSound}
use Rattle.lvm_ranges.specs.passed.Driver.{IsCopyCaused, NoTurn}
use Rattle.lvm_ranges.specs.passed.KeepsEvents.{is_marked}
use Rattle.lvm_ranges.specs.passed.Going.{RunsOn}
use Rattle.lvm_session.specs.declared.answers.Turned.TheVariants as told
use Rattle.lvm_ranges.specs.declared.fault.SyncFault.{SyncFault}
use Rattle.lvm_ranges.specs.Keeping.{KeepsTable}
use Rattle.lvm_ranges.specs.Passing.{CopyHasEnded, HasEndedFor, IsJustOpened, IsSameCopy, Runs, EndsTurning, EachTurnWhile}
use Rattle.lvm_ranges.specs.Turning.{GoesBeside, IsUnderWay, MakesLast, MakesTurn}
use Rattle.lvm_keeps.proofs.StateLemmas.{state_brought}
use Rattle.lvm_ranges.proofs.PassingLemmas.Open.{IsOpenStill, just_opened, turn_open}
use Rattle.lvm_ranges.proofs.PassingLemmas.Standing.{still_ended}
use Rattle.lvm_ranges.proofs.TurningLemmas.{beside_both, beside_none, last_turn, one_turn, unstuck_beside}

-- So far turns were made while it ran, and it is open still, where the session isn't over.
pub record BroughtSoFar (first now : State) (patience left : ℕ) : Type 0 where
  pub turns : EachTurnWhile Runs patience left first now
  pub begun : OpenCopy
  pub its : first.core.copy ≡ Some begun
  pub still : IsOpenStill begun now.core
  pub unstuck : now.core.power ≡ power.Stuck → ⊥
  pub beside : GoesBeside first now patience left

pub begins : (first : State) (left : ℕ) → (first.core.power ≡ power.Stuck → ⊥) → IsJustOpened first.core → BroughtSoFar first first left left
begins first left unstuck just = record {
  turns = NoTurn;
  begun = just.0;
  its = just.1;
  still = just_opened first.core just.0 just.1 just.2 just.3;
  unstuck = unstuck;
  beside = beside_none first left;
}

pub runs_under_way : (s : State) → IsSound s → Runs s.core → IsUnderWay s
runs_under_way s sound runs drained = still_ended s sound drained runs

-- one that has ended otherwise than with the session has ended as a caller expects it
has_ended : (core : Core) (c : OpenCopy) → (c.end ≡ Some ending.Ended → ⊥) → ((cursor : ℕ) → state_of_copy core c ≡ copy.Running cursor → ⊥) → CopyHasEnded (state_of_copy core c)
has_ended core c goes still = by (is_out c.step || is_still_aimed core c) (is_move_done core c) c.end goes still
  where
    of : (how : CopyEnd) → (how ≡ ending.Ended → ⊥) → CopyHasEnded (state_at_end c how)
    of ending.Done ends = tt
    of ending.SyncFailed ends = tt
    of ending.NoFresh ends = tt
    of ending.Ended ends = absurd (ends refl)

    by : (b d : Bool) (m : Option CopyEnd) → (m ≡ Some ending.Ended → ⊥) → ((cursor : ℕ) → (if b then copy.Running c.cursor else if d then copy.Done else option_map_or (state_at_end c) m (copy.Running c.cursor)) ≡ copy.Running cursor → ⊥)
        → CopyHasEnded (if b then copy.Running c.cursor else if d then copy.Done else option_map_or (state_at_end c) m (copy.Running c.cursor))
    by true d m ends runs = absurd (runs c.cursor refl)
    by false true m ends runs = tt
    by false false None ends runs = absurd (runs c.cursor refl)
    by false false (Some how) ends runs = of how (λ e. ends (ap (λ (h : CopyEnd). Some h) e))

-- one that is done has ended so
done_end : (core : Core) (c : OpenCopy) → c.moves ≡ false → state_of_copy core c ≡ copy.Done → c.end ≡ Some ending.Done
done_end core c stays e = by (is_out c.step) c.end refl (sym (state_brought core c stays) ∙ e)
  where
    by : (b : Bool) (m : Option CopyEnd) → c.end ≡ m → (if b then copy.Running c.cursor else option_map_or (state_at_end c) m (copy.Running c.cursor)) ≡ copy.Done → c.end ≡ Some ending.Done
    by true m is f = absurd (cc f)
    by false None is f = absurd (cc f)
    by false (Some ending.Done) is f = is
    by false (Some ending.SyncFailed) is f = absurd (cc f)
    by false (Some ending.NoFresh) is f = absurd (cc f)
    by false (Some ending.Ended) is f = absurd (cc f)

module _ (first old new : State) (patience left after : ℕ) (so_far : BroughtSoFar first old patience left) where
  pub turned : IsSound old → Runs old.core → MakesTurn old new left after → new.core.power ≡ power.On → GoesBeside old new left after → BroughtSoFar first new patience after
  turned sound runs made on beside = record {
    turns = one_turn Runs patience left after first old new so_far.turns runs made;
    begun = so_far.begun;
    its = so_far.its;
    still = by made;
    unstuck = unstuck_beside old new left after beside so_far.unstuck;
    beside = beside_both first old new patience left after so_far.beside beside;
  }
    where
      by : MakesTurn old new left after → IsOpenStill so_far.begun new.core
      by (inl moved) = turn_open so_far.begun old new sound so_far.still runs told.Moved moved.2 on
      by (inr waited) = turn_open so_far.begun old new sound so_far.still runs told.Idle waited.1 on

  pub stops : GoesBeside old new left after → GoesBeside first new patience after
  stops beside = beside_both first old new patience left after so_far.beside beside

  -- the turns up to one behind which it doesn't go on
  pub last_turns : Runs old.core → (why : SyncFault) → MakesLast old new left after why → EndsTurning Runs patience after first new why
  last_turns runs why made = last_turn Runs patience left after first old new so_far.turns runs why made

-- ---- it is closed

closed_table : (core : Core) → KeepsTable core (closed core)
closed_table core = record {
  asked = λ client id. refl;
  long = refl;
  answered = λ client id is. is;
  requests = record { landed = λ id is. is; reads = λ id place count is. is };
}

pub closed_state : {S : Type 0} (device : S → Device) (old new : S × Core) → new.0 ≡ old.0 → new.1 ≡ closed old.1 → state (device new.0) new.1 ≡ state (device old.0) (closed old.1)
closed_state device old new shelf core = ap (λ (d : Device). state d new.1) (ap device shelf) ∙ ap (λ (x : Core). state (device old.0) x) core

module _ (first old : State) (patience left : ℕ) (so_far : BroughtSoFar first old patience left) where
  abbrev it : OpenCopy
  it = so_far.still.copy

  state_is : copy_state old.core ≡ state_of_copy old.core it
  state_is = ap (λ m. option_map_or (state_of_copy old.core) m copy.Closed) so_far.still.is_open

  pub ends_as : (Runs old.core → ⊥) → CopyHasEnded (copy_state old.core)
  ends_as over = subst CopyHasEnded (sym state_is) (has_ended old.core it so_far.still.goes (λ cursor e. over (cursor, state_is ∙ e)))

  fresh : (new : State) → new ≡ state old.device (closed old.core) → copy_state old.core ≡ copy.Done → IfSome first.core.copy (λ (c : OpenCopy). is_marked new.core c.pp ≡ false)
  fresh new is done = subst (λ (m : Option OpenCopy). IfSome m (λ (c : OpenCopy). is_marked new.core c.pp ≡ false)) (sym so_far.its) (ap (is_marked new.core) (sym so_far.still.its.0) ∙ here)
    where
      here : is_marked new.core it.pp ≡ false
      here = ap (λ (s : State). is_marked s.core it.pp) is ∙ (so_far.still.cleared (done_end old.core it (so_far.still.its.5 ∙ so_far.still.brings) (sym state_is ∙ done))).1

  same : IfSome first.core.copy (λ (c : OpenCopy). IfSome old.core.copy (IsSameCopy c))
  same = subst (λ (m : Option OpenCopy). IfSome m (λ (c : OpenCopy). IfSome old.core.copy (IsSameCopy c))) (sym so_far.its) (subst (λ (m : Option OpenCopy). IfSome m (IsSameCopy so_far.begun)) (sym so_far.still.is_open) so_far.still.its)

  pub closes : (new : State) → IsCopyCaused old → new ≡ state old.device (closed old.core) → RunsOn old new → HasEndedFor patience left first new (copy_state old.core) × GoesBeside first new patience left
  closes new caused is runs = (record { ended = old; turns = so_far.turns; how_is = refl; same = same; caused = caused; is = is; fresh = fresh new is }, beside_both first old new patience left left so_far.beside here)
    where
      none : GoesBeside old old left left
      none = beside_none old left

      here : GoesBeside old new left left
      here = record {
        leaves = goes_any runs;
        table = subst (λ (s : State). KeepsTable old.core s.core) (sym is) (closed_table old.core);
        orders = (path_frames runs).orders;
        loses = λ disk gone. inl (ap (λ (s : State). is_missing s.core disk) (sym is) ∙ gone);
        fewer = none.fewer;
        waited = subst (λ (s : State). RoseBy (left - left) old.device.counts.waits s.device.counts.waits) (sym is) none.waited;
      }
