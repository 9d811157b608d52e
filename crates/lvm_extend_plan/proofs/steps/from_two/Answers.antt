use Rattle.std.proofs.Common.{Some, true, sym, subst}
use Rattle.lvm_num.specs.declared.descriptor.Descriptor.{Descriptor}
use Rattle.lvm_member_plan.specs.Descriptors.{with_even}
use Rattle.lvm_extend_plan.specs.Steps.{AreStepsIn}
use Rattle.lvm_extend_plan.proofs.JoiningLemmas.{from_two}
use Rattle.lvm_extend_plan.proofs.steps.from_two.Goals as goal

pub returns : goal.returns
returns c =
    let d = c.args.d.now in
    let row = c.args.row in
    subst (λ (g : Descriptor). AreStepsIn d row (record { before = Some g; into = c.in_ok-into.into })) (sym c.in_ok-before.ensures)
    (subst (λ (g : Descriptor). AreStepsIn d row (record { before = Some (with_even true d); into = g })) (sym c.in_ok-into.ensures) (from_two d row c.requires.valid c.requires.may c.requires.two c.requires.uneven))
