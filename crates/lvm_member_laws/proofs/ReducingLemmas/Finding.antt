-- Behind disks that leave, or that were to leave, what a crash image finds of the group.
use Rattle.std.proofs.Common.{◌≡◌, inl, inr, ⊎_elim, ℕ, Ok, sym, ap, subst, ◌∙◌}
use Rattle.std.specs.Prelude.{IsFalse}
use Rattle.lvm_num.specs.declared.descriptor.Descriptor.{Descriptor}
use Rattle.lvm_num.specs.Descriptor.{is_member}
use Rattle.lvm_num.proofs.Lists.{of_told, some_told}
use Rattle.lvm_disk.specs.Device.{Media}
use Rattle.lvm_kept.proofs.MomentsLemmas.Chaining.{span_told}
use Rattle.lvm_session.specs.State.{Core}
use Rattle.lvm_volume_plan.specs.passed.Core.{MayBeFound}
use Rattle.lvm_handover.specs.passed.Core.{IsHeld}
use Rattle.lvm_member_plan.specs.Descriptors.{IsReducedBy, reduced}
use Rattle.lvm_tie_commands.proofs.BeginsLemmas.{Held}
use Rattle.lvm_tie_commands.proofs.ChangingLemmas.Finding.{only_before}
use Rattle.lvm_tie_commands.proofs.HeldLemmas.{holds_before}
use Rattle.lvm_tie_commands.proofs.Resting.{still}
use Rattle.lvm_member_laws.specs.Reducing.{ReduceFinds, ReduceLeavesOut}
use Rattle.lvm_member_laws.proofs.Rows.{left_out}
use Rattle.lvm_member_laws.proofs.ReducingLemmas.Going.{standing}

pub reduce_finds : ReduceFinds
reduce_finds run first disks before after old new answer may c past begins k found =
    let told = some_told old.device.media (span_told may.keeps begins.told) in
    let held : IsHeld old.device old.core = (holds_before run first old may c.began past begins).0 in
    ⊎_elim
    (λ (was : MayBeFound old.device old.core.descriptor.id k). inl (only_before old told.0 told.1 (still old may.sound c.began) (of_told (λ (m : Media). Held old m) old.device.media told.0 told.1 held) k was))
    (λ (is : (old.core.descriptor.id ≡ k.id) × IsReducedBy disks old.core.descriptor k). inr is.1)
    (c.leaves.finds held old.core.descriptor.id k found)

pub reduce_leaves_out : ReduceLeavesOut
reduce_leaves_out run first disks before after old new may c past begins k found =
    let was = some_told old.device.media (span_told may.keeps begins.told) in
    let told = (standing run first disks before after old new (Ok tt) may c).told was.0 was.1 in
    let held : IsHeld new.device new.core = c.still.held (holds_before run first old may c.began past begins).0 in
    let now : new.core.descriptor ≡ reduced disks old.core.descriptor = ap (λ (c : Core). c.descriptor) c.gives.1.is in
    let id : old.core.descriptor.id ≡ new.core.descriptor.id = sym (ap (λ (g : Descriptor). g.id) now) in
    let is : k ≡ new.core.descriptor = only_before new told.0 told.1 c.gives.1.ready.flights (of_told (λ (m : Media). Held new m) new.device.media told.0 told.1 held) k (subst (λ (n : ℕ). MayBeFound new.device n k) id found) in
    (is ∙ now, λ x leaves. subst (λ (g : Descriptor). IsFalse (is_member g x)) (sym (is ∙ now)) (left_out disks old.core.descriptor x leaves))
