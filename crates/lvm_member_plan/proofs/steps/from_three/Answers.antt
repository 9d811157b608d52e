use Rattle.std.proofs.Common.{[], ◌∷◌, None, Some, true, sym, subst}
use Rattle.lvm_num.specs.declared.descriptor.Descriptor.{Descriptor}
use Rattle.lvm_member_plan.specs.Descriptors.{without_members, reduced}
use Rattle.lvm_member_plan.specs.Steps.{AreStepsOut}
use Rattle.lvm_member_plan.proofs.StepsLemmas.{from_three}
use Rattle.lvm_member_plan.proofs.steps.from_three.Goals as goal

pub returns : goal.returns
returns c =
    let d = c.args.d.now in
    let x = c.args.disk in
    subst (λ (g : Descriptor). AreStepsOut d x (record { before = None; out = g; after = Some c.in_ok-after.after })) (sym c.in_ok-out.ensures)
    (subst (λ (g : Descriptor). AreStepsOut d x (record { before = None; out = without_members (x ∷ []) true d; after = Some g })) (sym c.in_ok-after.ensures) (from_three d x c.requires.valid c.requires.may c.requires.three))
