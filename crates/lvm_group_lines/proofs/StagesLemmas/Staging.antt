-- States of stages.
use Rattle.std.proofs.Common.{◌≡◌, ℕ, Option, Some, None, IsSome, IfSome, refl, sym, ap, subst}
use Rattle.lvm_disk.specs.Device.{Device}
use Rattle.lvm_io.specs.Count.{Rose}
use Rattle.lvm_session.specs.State.{Core}
use Rattle.lvm_group_lines.specs.Asking.{IsAsked}
use Rattle.lvm_group_lines.specs.Stages.{state_in, IsBetweenStage, IsFittingStage}
use Rattle.lvm_group_lines.specs.declared.stage.Stage.{Stage}

-- a stage between two lines, and one whose parts fit
pub between_as : {S : Type 0} (device : S → Device) (old old' : Stage S) → old ≡ old' → IsBetweenStage device old → IsBetweenStage device old'
between_as device old old' was between = subst (IsBetweenStage device) was between

pub fits_as : {S : Type 0} (old old' : Stage S) → old ≡ old' → IsFittingStage old → IsFittingStage old'
fits_as old old' was fits = subst IsFittingStage was fits

-- a session that is on, of which this holds
pub on_with : (session : Option Core) (P : Core → Type 0) → IsSome session → IfSome session P → (core : Core) × (session ≡ Some core) × P core
on_with (Some core) P some holds = (core, refl, holds)
on_with None P some holds = absurd (cc (some))

-- a stage that stays while the clock was asked
pub asked_stays : {S : Type 0} (device : S → Device) (old new : Stage S) (before after moment : ℕ) → Rose before moment → after ≡ moment → new ≡ old → IsAsked (state_in device old before) (state_in device new after)
asked_stays {S} device old new before after moment rose last same = record {
  asks = subst (λ (n : ℕ). Rose before n) (sym last) rose;
  same = ap (λ (s : Stage S). state_in device s after) same;
}
