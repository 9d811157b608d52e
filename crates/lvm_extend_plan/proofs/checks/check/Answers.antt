use Rattle.std.proofs.lemmas.Result.{err_from_is_err_and}
use Rattle.lvm_extend_plan.proofs.checks.check.Goals as goal

pub returns-in_err-can_take-clause-refused : goal.returns-in_err-can_take-clause-refused
returns-in_err-can_take-clause-refused g c =
    let e = err_from_is_err_and c.from_residual.result c.from_residual.ensures.1 in
    rw (e.1, e.2) (c.in_err-can_take.ensures.refused c.args.disks.now)
