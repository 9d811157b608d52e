use Rattle.std.proofs.Common.{None, sym, subst}
use Rattle.lvm_num.specs.declared.descriptor.Descriptor.{Descriptor}
use Rattle.lvm_extend_plan.specs.Steps.{AreStepsIn}
use Rattle.lvm_extend_plan.proofs.JoiningLemmas.{at_once}
use Rattle.lvm_extend_plan.proofs.steps.at_once.Goals as goal

pub returns : goal.returns
returns c =
    let d = c.args.d.now in
    let row = c.args.row in
    subst (λ (g : Descriptor). AreStepsIn d row (record { before = None; into = g })) (sym c.in_ok-into.ensures) (at_once d row c.requires.valid c.requires.may c.requires.two)
