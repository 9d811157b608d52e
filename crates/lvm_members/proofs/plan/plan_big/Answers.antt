use Rattle.std.proofs.Common.{◌≡◌, ap, subst, ◌∙◌}
use Rattle.std.proofs.lemmas.Result.{err_from_is_err_and}
use Rattle.lvm_num.specs.declared.descriptor.Descriptor.{Descriptor}
use Rattle.lvm_change.specs.Rule.{as_big}
use Rattle.lvm_members.specs.Commands.{RefusesChange}
use Rattle.lvm_members.proofs.plan.plan_big.Goals as goal

pub returns-in_err-can_take-clause-refused : goal.returns-in_err-can_take-clause-refused
returns-in_err-can_take-clause-refused g c =
    let e = err_from_is_err_and c.from_residual.result c.from_residual.ensures.1 in
    rw (e.1, e.2) (c.in_err-can_take.ensures.refused (as_big c.args.driver.now.1.descriptor))

pub returns-in_err-check-clause-refused : goal.returns-in_err-check-clause-refused
returns-in_err-check-clause-refused g c =
    let e = err_from_is_err_and c.from_residual-in_err-check.result c.from_residual-in_err-check.ensures.1 in
    let is : c.in-Ok.next ≡ as_big c.args.driver.now.1.descriptor = c.in-Ok.ensures.next ∙ ap as_big c.descriptor.ensures.same in
    rw (e.1, e.2) (subst (λ (d : Descriptor). RefusesChange d c.args.driver.now.1 c.in_err-check.field-0.0) is c.in_err-check.ensures.refused)
