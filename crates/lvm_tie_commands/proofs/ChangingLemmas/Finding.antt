-- Behind a change a crash image that finds the group finds the descriptor that it had, or the next one.
use Rattle.std.proofs.Common.{◌≡◌, inl, inr, ⊎_elim, [], Some}
use Rattle.lvm_num.specs.declared.descriptor.Descriptor.{Descriptor}
use Rattle.lvm_num.proofs.Lists.{of_told, some_told}
use Rattle.lvm_disk.specs.Device.{Media}
use Rattle.lvm_kept.proofs.MomentsLemmas.Chaining.{span_told}
use Rattle.lvm_commit.proofs.LawsOfDataLemmas.Still.{still_holds_committed}
use Rattle.lvm_session.specs.State.{State, is_there}
use Rattle.lvm_volume_plan.specs.passed.Core.{MayBeFound}
use Rattle.lvm_handover.specs.passed.Core.{IsHeld}
use Rattle.lvm_tie_commands.specs.Changing.{ChangeFindsTwo}
use Rattle.lvm_tie_commands.proofs.BeginsLemmas.{Held}
use Rattle.lvm_tie_commands.proofs.HeldLemmas.{holds_before}
use Rattle.lvm_tie_commands.proofs.Resting.{still}

-- before it nothing else of the group was found
module _ (s : State) (media : Media) (told : s.device.media ≡ Some media) (nothing_out : s.device.flights ≡ []) (held : Held s media) where
  pub only_before : (k : Descriptor) → MayBeFound s.device s.core.descriptor.id k → k ≡ s.core.descriptor
  only_before k may = (still_holds_committed s.core.descriptor s.core.status.committed (is_there s.core) s.core.status.stamp s.core.homes s.device media told nothing_out held may.0 may.1).shows.only may.2.0 k may.2.1

pub change_finds_two : ChangeFindsTwo
change_finds_two run first next before after old new answer may c past begins k found =
    let told = some_told old.device.media (span_told may.keeps begins.told) in
    let held : IsHeld old.device old.core = (holds_before run first old may c.began past begins).0 in
    ⊎_elim
    (λ (was : MayBeFound old.device old.core.descriptor.id k). inl (only_before old told.0 told.1 (still old may.sound c.began) (of_told (λ (m : Media). Held old m) old.device.media told.0 told.1 held) k was))
    (λ (is : (old.core.descriptor.id ≡ k.id) × (k ≡ next)). inr is.1)
    (c.leaves.finds held old.core.descriptor.id k found)
