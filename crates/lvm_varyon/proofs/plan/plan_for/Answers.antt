use Rattle.std.proofs.Common.{sym, subst}
use Rattle.std.specs.Prelude.{IfOk}
use Rattle.lvm_num.specs.declared.record.Stamp.{Stamp}
use Rattle.lvm_num.specs.Descriptor.{IsValid}
use Rattle.lvm_num.specs.Status.{IsValidStatus}
use Rattle.lvm_quorum.specs.declared.choice.Choice.{Choice}
use Rattle.lvm_core.specs.passed.SessionStart.{IsOneGroup}
use Rattle.lvm_varyon.specs.Planned.{IsPlanOfChoice}
use Rattle.lvm_varyon.proofs.PlannedLemmas.{planned_for}
use Rattle.lvm_varyon.proofs.plan.plan_for.Goals as goal

no_stamp : Stamp
no_stamp = record { epoch = 0; seq = 0 }

pub plan_with-requires-clause-descriptor : goal.plan_with-requires-clause-descriptor
plan_with-requires-clause-descriptor c = subst (λ (x : Choice). IsValid x.descriptor) (sym c.with_status.ensures) c.requires.descriptor

pub plan_with-requires-clause-status : goal.plan_with-requires-clause-status
plan_with-requires-clause-status c = subst (λ (x : Choice). IsValidStatus x.status) (sym c.with_status.ensures) (c.in_ok-next.ensures no_stamp).valid

pub plan_with-requires-clause-group : goal.plan_with-requires-clause-group
plan_with-requires-clause-group c =
    let next = c.in_ok-next.ensures no_stamp in
    subst (λ (x : Choice). IsOneGroup x.descriptor x.status) (sym c.with_status.ensures) (record { id = next.id; rows = next.rows })

pub returns : goal.returns
returns c =
    planned_for c.args.survey.now c.args.choice c.in_ok-copying.copying c.in_ok-next.next c.args.homes c.args.room c.requires.descriptor c.in_ok-next.ensures c.in_ok-copying.ensures c.plan_with.result
    (subst (λ (x : Choice). IfOk c.plan_with.result (IsPlanOfChoice x c.in_ok-copying.copying c.args.homes c.args.room)) c.with_status.ensures c.plan_with.ensures)
