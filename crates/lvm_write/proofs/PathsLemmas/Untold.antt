-- A shelf that doesn't tell its media never does, and so keeps whatever was kept.
use Rattle.std.proofs.Common.{◌≡◌, ⊎_elim, Option, Some, None, refl, sym, ◌∙◌, ap, subst}
use Rattle.std.specs.Prelude.{IsSomeAnd}
use Rattle.lvm_disk.specs.declared.shelf.Arrange.{Arrange}
use Rattle.lvm_disk.specs.declared.shelf.Arrange.TheVariants as arrange
use Rattle.lvm_disk.specs.Device.{Media, Device, image_of, IsCrashImage}
use Rattle.lvm_disk.specs.Steps.{BothTold, Cuts, Arranges, with_order}
use Rattle.lvm_disk.specs.Paths.{DeviceStep, Started, WasCut, Ended, Broke, Waited, Freed, Lit, Arranged, Path, Here, Then}
use Rattle.lvm_disk.proofs.PathsLemmas.{map-path, last-path}
use Rattle.lvm_steps.specs.Moments.{StaysKept}

both_none : (o n : Option Media) (R : Media → Media → Type 0) → BothTold o n R → o ≡ None → n ≡ None
both_none None None R both none = refl
both_none None (Some n) R both none = absurd both
both_none (Some o) None R both none = refl
both_none (Some o) (Some n) R both none = absurd cc

arranged_none : (old new : Device) (what : Arrange) → Arranges old new what → old.media ≡ None → new.media ≡ None
arranged_none old new (arrange.Fail disk) is none = ap (λ (d : Device). d.media) is ∙ none
arranged_none old new (arrange.Heal disk) is none = ap (λ (d : Device). d.media) is ∙ none
arranged_none old new (arrange.Cut word) is none = ⊎_elim
    (λ off. ap (λ (d : Device). d.media) off.1 ∙ none)
    (λ (cuts : Cuts (with_order old (arrange.Cut word)) new). both_none old.media new.media _ cuts.media none)
    is.1

step_none : (old new : Device) → DeviceStep old new → old.media ≡ None → new.media ≡ None
step_none old new (Started f starts) none = ap (λ (d : Device). d.media) starts.new_is ∙ none
step_none old new (WasCut cuts) none = both_none old.media new.media _ cuts.media none
step_none old new (Ended ticket buf ends) none = both_none old.media new.media _ ends.media none
step_none old new (Broke ticket buf ends) none = both_none old.media new.media _ ends.media none
step_none old new (Waited waits) none = ap (λ (d : Device). d.media) waits.new_is ∙ none
step_none old new (Freed buf frees) none = sym (ap (λ (d : Device). d.media) frees) ∙ none
step_none old new (Lit still freed lights) none = ap (λ (d : Device). d.media) lights ∙ none
step_none old new (Arranged what arranges) none = arranged_none old new what arranges none

path_none : {P : Device → Type 0} {old new : Device} → old.media ≡ None → Path DeviceStep P old new → Path DeviceStep (λ d. d.media ≡ None) old new
path_none none (Here p) = Here none
path_none none (Then path step p) = let front = path_none none path in Then front step (step_none _ _ step (last-path front))

pub untold_kept : {P : Device → Type 0} (old new : Device) → old.media ≡ None → Path DeviceStep P old new → Path DeviceStep (StaysKept old) old new
untold_kept old new none path = map-path (StaysKept old) (λ d is facts kept image left. absurd (subst (λ (o : Option Media). IsSomeAnd o (λ media. IsCrashImage (image_of d.sizes media) d.flights image)) is left)) (path_none none path)
