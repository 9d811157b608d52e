-- Commands on volumes of the group that is on, from the session that has come to rest.
use Rattle.std.proofs.Common.{◌≡◌, ℕ, Bool, false, List, refl, subst, Result}
use Rattle.std.specs.Prelude.{⊤, MatchBool}
use Rattle.lvm_num.specs.declared.place.Pp.{Pp}
use Rattle.lvm_disk.specs.Device.{Device, HasSectors}
use Rattle.lvm_vol.specs.Log.{Log}
use Rattle.lvm_kept.specs.Moments.{Moment}
use Rattle.lvm_steps.specs.Moments.{Keeps}
use Rattle.lvm_session.specs.State.{Core, State}
use Rattle.lvm_core.specs.Committing.{moment_of}
use Rattle.lvm_core.specs.Leaves.{Scope}
use Rattle.lvm_core.specs.Settled.{IsSettled as IsSettledCore}
use Rattle.lvm_core.specs.Sound.{HaveAllLanded}
use Rattle.lvm_core.specs.State.{state_of}
use Rattle.lvm_range_lines.specs.passed.TieCommands.{IsAloneAtFirst, IsLeftStandingSince, MayBeCommanded}
use Rattle.lvm_range_lines.specs.passed.Volumes.{StillHeld}
use Rattle.lvm_range_lines.specs.passed.VolumePlan.{GroupFault, IfOn, is_over}
use Rattle.lvm_range_lines.specs.passed.GroupLines.{EndsUnasked, patience_of_line, Role, IsBetweenStage, IsFittingStage, open_in, session_in, shelf_in, history_in, state_in, ScriptState, without_facts, Reply, Stage}
use Rattle.lvm_range_lines.proofs.passed.GroupLines.{LeavesAnswers}
use Rattle.lvm_volume_lines.specs.Commands.{HasRested, IsCarriedOut, IsLeftAs}
use Rattle.lvm_volume_lines.specs.Volumes.{IsDone, volume_reply}
use Rattle.lvm_volume_lines.proofs.Carrying.{IsCarried, at_mid, carried_ends, finds_no_more, left_either}
use Rattle.lvm_volume_lines.proofs.Commanding.{Acts, Promised, promised_by, ready_mid}
use Rattle.lvm_volume_lines.proofs.Ending.{Facts, SameShape, closes_after, one_answer, ready_still, rows_stay}

-- ---- by the answer

-- the session goes on after an answer that doesn't end it
pub if_on : {X : Type 0} (given : Result X GroupFault) (P : Type 0) → IfOn given P → is_over given ≡ false → P
if_on given P on goes = subst (λ (over : Bool). MatchBool over ⊤ P) goes on

-- what is known of the command by what it gives
pub record IsKnown {X : Type 0} (run patience : ℕ) (mid left : State) (given : Result X GroupFault) : Type 0 where
  pub facts : Facts given patience mid left
  pub landed : HaveAllLanded left.core.history.facts
  pub answers : LeavesAnswers mid.core.history.facts left.core.history.facts
  pub shape : is_over given ≡ false → SameShape mid left
  pub goes : (first : Moment) → MayBeCommanded run first mid → IsAloneAtFirst mid left → Keeps run first (moment_of left) × IfOn given (IsLeftStandingSince run first left)

-- ---- a command has been carried out

module _ {S : Type 0} (device : S → Device) (stage : Stage S) (fits : IsFittingStage stage) (between : IsBetweenStage device stage) (none : open_in (session_in stage) ≡ 0)
    (patience : ℕ) (driver : S × Core) (rested : HasRested device stage.holder patience_of_line patience driver) where
  abbrev core : Core
  core = rested.turned.core

  abbrev mid : State
  mid = state_of device driver

  module _ {X : Type 0} (role : Role) (acts : Acts role) (Gives : State → State → Result X GroupFault → Type 0) (added : Result X GroupFault → List Pp) (scope : Core → Scope) (it : Stage S) (answer : Reply)
      (done : IsCarriedOut device Gives added (scope driver.1) patience driver stage.posts stage.bytes it answer) (sectors : (shelf : S) → HasSectors (device shelf)) where
    abbrev left : State
    left = state_of device done.left

    abbrev run : ℕ
    run = core.history.run

    abbrev given : Result X GroupFault
    given = done.given

    module _ (known : (last : ℕ) → IsKnown run patience mid left given) where
      promised : Promised mid left
      promised = promised_by (scope driver.1) patience done.after mid left done.commanded.leaves

      abbrev carried : IsCarried run (is_over given) (volume_reply given) (device (shelf_in it)) mid left
      carried = record {
        closed = λ over. closes_after patience mid left given (device (shelf_in it)) (known 0).facts over (subst (λ (b : Bool). IsLeftAs device b (added given) done.left stage.posts stage.bytes it) over done.is).lit;
        ready = λ goes. ready_still patience mid left given (ready_mid (state_in device stage 0) core mid (at_mid device stage fits between none patience driver rested 0)) (known 0).facts goes;
        settled = λ goes. if_on given (IsSettledCore left.core) done.commanded.on goes;
        few = one_answer patience mid left given;
        landed = (known 0).landed;
        answers = (known 0).answers;
        rows = λ goes. rows_stay mid left ((known 0).shape goes);
        spans = λ m may alone. ((known 0).goes m may alone).0;
        stands = λ goes m may alone. if_on given (IsLeftStandingSince run m left) ((known 0).goes m may alone).1 goes;
      }

      is_done : (last : ℕ) → IsDone (λ was is. Gives was is given) scope (is_over given) mid (state_in device stage last) (state_in device it last)
      is_done last = record {
        left = left;
        gives = done.gives;
        leaves = left_either device stage fits between none patience driver rested role acts (is_over given) (volume_reply given) (added given) done.left it done.is promised sectors carried (is_over given) refl last;
        finds = finds_no_more device stage fits between none patience driver rested role acts (is_over given) (volume_reply given) (added given) done.left it done.is promised sectors carried (scope driver.1).next done.commanded.leaves.finds last;
        status = done.commanded.leaves.status;
        writes = done.commanded.leaves.writes;
        held = λ goes. (if_on given (StillHeld mid left) done.commanded.still goes).held;
        rests = λ goes. (carried.settled goes, carried.ready goes);
        clock = refl;
      }

      -- the line ends so, by what it does
      pub ends_so : (Does : Log → ScriptState → ScriptState → Reply → Type 0)
          → ((last : ℕ) → IsDone (λ was is. Gives was is given) scope (is_over given) mid (state_in device stage last) (state_in device it last) → Does (without_facts (history_in stage)) (state_in device stage last) (state_in device it last) (volume_reply given))
          → EndsUnasked device Does ⊥ role stage it answer
      ends_so Does does = carried_ends device stage fits between none patience driver rested role acts (is_over given) (volume_reply given) (added given) done.left it done.is promised sectors carried Does (λ last. does last (is_done last)) answer done.says
