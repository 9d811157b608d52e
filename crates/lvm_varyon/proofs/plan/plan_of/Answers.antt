use Rattle.std.proofs.Common.{◌<◌, arith}
use Rattle.lvm_num.specs.Record.{last_moment}
use Rattle.lvm_varyon.proofs.ChosenLemmas.{group_valid, was_valid, not_later, at_last, planned}
use Rattle.lvm_varyon.proofs.plan.plan_of.Goals as goal

pub returns-then-moment-eq-LAST : goal.returns-then-moment-eq-LAST
returns-then-moment-eq-LAST c = at_last c.args.survey.now c.args.name c.in-Ok.choice c.in-Ok.ensures c.args.moment c.if-moment-eq-LAST.true

pub returns-then-moment-choice : goal.returns-then-moment-choice
returns-then-moment-choice c = not_later c.args.survey.now c.args.name c.in-Ok.choice c.in-Ok.ensures c.args.moment c.if-moment-choice.true

pub plan_for-requires-clause-descriptor : goal.plan_for-requires-clause-descriptor
plan_for-requires-clause-descriptor c = group_valid c.args.survey.now c.args.name c.in-Ok.choice c.in-Ok.ensures c.requires.valid

pub plan_for-requires-clause-status : goal.plan_for-requires-clause-status
plan_for-requires-clause-status c = was_valid c.args.survey.now c.args.name c.in-Ok.choice c.in-Ok.ensures c.requires.valid

pub returns-in-Ok-plan_for : goal.returns-in-Ok-plan_for
returns-in-Ok-plan_for c =
    let fits = c.ranges.moment.fits in
    let not_last = c.if-moment-eq-LAST.false in
    let early : c.args.moment < last_moment = omega (arith, fits, not_last) in
    planned c.args.survey.now c.args.name c.in-Ok.choice c.in-Ok.ensures c.args.moment c.args.room c.homes_of.result c.in-Ok-plan_for.plan c.requires.valid c.if-moment-choice.false early c.homes_of.ensures.spare c.in-Ok-plan_for.ensures
