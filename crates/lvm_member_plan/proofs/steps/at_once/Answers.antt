use Rattle.std.proofs.Common.{None, sym, subst}
use Rattle.lvm_num.specs.declared.descriptor.Descriptor.{Descriptor}
use Rattle.lvm_member_plan.specs.Steps.{AreStepsOut}
use Rattle.lvm_member_plan.proofs.StepsLemmas.{at_once}
use Rattle.lvm_member_plan.proofs.steps.at_once.Goals as goal

pub returns : goal.returns
returns c =
    let d = c.args.d.now in
    let x = c.args.disk in
    subst (λ (g : Descriptor). AreStepsOut d x (record { before = None; out = g; after = None })) (sym c.in_ok-out.ensures) (at_once d x c.requires.valid c.requires.may c.requires.three c.requires.two)
