use Rattle.std.proofs.Common.{None, Some, true, sym, subst}
use Rattle.lvm_num.specs.declared.descriptor.Descriptor.{Descriptor}
use Rattle.lvm_member_plan.specs.Descriptors.{with_even}
use Rattle.lvm_member_plan.specs.Steps.{AreStepsOut}
use Rattle.lvm_member_plan.proofs.StepsLemmas.{first_of_two}
use Rattle.lvm_member_plan.proofs.steps.first_of_two.Goals as goal

pub returns : goal.returns
returns c =
    let d = c.args.d.now in
    let x = c.args.disk in
    subst (λ (g : Descriptor). AreStepsOut d x (record { before = Some g; out = c.in_ok-out.out; after = None })) (sym c.in_ok-before.ensures)
    (subst (λ (g : Descriptor). AreStepsOut d x (record { before = Some (with_even true d); out = g; after = None })) (sym c.in_ok-out.ensures) (first_of_two d x c.requires.valid c.requires.may c.requires.two))
