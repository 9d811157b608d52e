-- Requests land well while nothing fails and copies move.
use Rattle.std.proofs.Common.{◌≡◌, ◌⊎◌, ℕ, inl, inr, ◌++◌, List, [], Result, ap, append_assoc, sym, subst, ◌∙◌, refl}
use Rattle.std.specs.Prelude.{slice_index_or}
use Rattle.std.specs.List.{AllByRecursion}
use Rattle.std.proofs.lemmas.List.{append-nil}
use Rattle.lvm_num.proofs.Lists.{all_weaker}
use Rattle.lvm_disk.specs.Counts.{Rose}
use Rattle.lvm_disk.specs.Paths.{Here, Then}
use Rattle.lvm_disk.proofs.CountingLemmas.{rose_after}
use Rattle.lvm_vol.specs.Facts.{Fact}
use Rattle.lvm_vol.specs.Log.{Log}
use Rattle.lvm_session.specs.declared.open.Power.TheVariants as power
use Rattle.lvm_session.specs.Causes.{AnyFailedSince}
use Rattle.lvm_session.specs.Sound.{IsSound}
use Rattle.lvm_session.specs.State.{State}
use Rattle.lvm_keeps.proofs.KeepsLemmas.Losing.{loss_is_caused}
use Rattle.lvm_going.specs.Going.{BeginsMove, CommitsItsMove, Leaves, LeavesMoving, MovingStep}
use Rattle.lvm_going.specs.Frames.{GoesOnOrEnds}
use Rattle.lvm_load.specs.MovingFrames.{KeepsMovingFrame, MovesFrame}
use Rattle.lvm_going.proofs.GoingLemmas.{moves_keep, moving_keeps}
use Rattle.lvm_load.proofs.MovingFramesLemmas.{begin_leaves, commit_frame, moves_frame, moving_frame}
use Rattle.lvm_load.specs.Landing.{EntersWell, IsEnteredWell}
use Rattle.lvm_load.specs.MovingLanding.{EntersOnWay, IsEnteredOnWay, RequestsLandOnWay}
use Rattle.lvm_load.proofs.LandingLemmas.{append_all, enters_none, step_enters}

-- ---- one step

-- what has failed has failed later
failed_on : (old new : State) → KeepsMovingFrame old new → AnyFailedSince old → AnyFailedSince new
failed_on old new keeps failed = (
  failed.0,
  rose_after (subst (λ (fs : List ℕ). Rose (slice_index_or fs failed.0 0) (old.device.counts.faults failed.0)) (sym keeps.faults) failed.1) (keeps.counts.faults failed.0),
)

-- what was dark is
dark_on : (old new : State) → KeepsMovingFrame old new → old.core.power ≡ power.Dark → new.core.power ≡ power.Dark
dark_on old new keeps dark = by keeps.power
  where
    by : GoesOnOrEnds old.core new.core ⊎ ((old.core.power ≡ power.On) × (new.core.power ≡ power.Stuck)) → new.core.power ≡ power.Dark
    by (inl (inl same)) = same ∙ dark
    by (inl (inr (inl is))) = is
    by (inl (inr (inr off))) = absurd (let no : power.On ≡ power.Dark = sym off.0 ∙ dark in cc no)
    by (inr stuck) = absurd (let no : power.On ≡ power.Dark = sym stuck.0 ∙ dark in cc no)

module _ (old new : State) (sound : IsSound old) (none : AnyFailedSince new → ⊥) (lit : new.core.power ≡ power.Dark → ⊥) where
  abbrev Enters : Type 0
  Enters = EntersWell old.core old.core.history.facts new.core.history.facts

  one_enters : MovingStep old new → Enters
  one_enters (Leaves it) = step_enters old new sound (λ failed. none (failed_on old new (moving_frame old new (Leaves it)) failed)) lit it
  one_enters (CommitsItsMove before after answer c drained epoch it) =
      let after_it = moving_keeps old new sound (CommitsItsMove before after answer c drained epoch it) in
      enters_none old.core old.core.history.facts new.core.history.facts
      ((commit_frame before after old new answer drained.on it).facts lit (λ off. none (loss_is_caused new after_it (after_it.off off))))
  one_enters (BeginsMove lv lp number to answer unstuck apart gives same) =
      enters_none old.core old.core.history.facts new.core.history.facts (ap (λ (l : Log). l.facts) (begin_leaves _ old new lv lp number to answer gives).history)

-- ---- one after another

on_way : (first mid : State) → LeavesMoving first mid → (f : Fact) → IsEnteredWell mid.core f → IsEnteredOnWay first f
on_way first mid way f well = record { at = mid; way = way; well = well }

enters_on : (first mid last : State) → LeavesMoving first mid → EntersOnWay first mid.core.history.facts → EntersWell mid.core mid.core.history.facts last.core.history.facts → EntersOnWay first last.core.history.facts
enters_on first mid last way one two = record {
  since = one.since ++ two.since;
  is = two.is ∙ ap (λ (fs : List Fact). fs ++ two.since) one.is ∙ append_assoc first.core.history.facts one.since two.since;
  well = append_all (IsEnteredOnWay first) one.since two.since one.well (all_weaker (IsEnteredWell mid.core) (IsEnteredOnWay first) (on_way first mid way) two.since two.well);
}

pub requests_land_on_way : RequestsLandOnWay
requests_land_on_way first last sound (Here any) none lit = record { since = []; is = sym (append-nil first.core.history.facts); well = tt }
requests_land_on_way first last sound (Then {m = mid} path step any) none lit =
    let frame = moving_frame mid last step in
    let none_mid : AnyFailedSince mid → ⊥ = λ failed. none (failed_on mid last frame failed) in
    let lit_mid : mid.core.power ≡ power.Dark → ⊥ = λ dark. lit (dark_on mid last frame dark) in
    enters_on first mid last path (requests_land_on_way first mid sound path none_mid lit_mid) (one_enters mid last (moves_keep first mid sound path) none lit step)

-- what stays of a session over its way
pub frame_later : MovesFrame
frame_later = moves_frame
