use Rattle.std.proofs.Common.{◌≡◌, Option, None, false, true, refl, sym, ap, subst, ◌∙◌}
use Rattle.std.proofs.lemmas.Result.{err_from_is_err_and}
use Rattle.lvm_num.specs.declared.descriptor.Descriptor.{Descriptor}
use Rattle.lvm_move_plan.specs.declared.plan.PlanFault.{PlanFault}
use Rattle.lvm_move_plan.specs.Planned.{IsPlanFault, plan_refusal, planned_moves}
use Rattle.lvm_migrate.specs.Migrating.{StandsAgainst}
use Rattle.lvm_migrate.proofs.MigratingLemmas.{plan_fails, plan_short, plan_stands, refused_by}
use Rattle.lvm_migrate.proofs.migrating.plan.Goals as goal

pub returns-in-Some-clause-planned : goal.returns-in-Some-clause-planned
returns-in-Some-clause-planned g c = StandsAgainst c.in-Some.why (refused_by c.args.driver.now.1 c.args.lv c.args.from c.args.to c.in-Some.why (sym c.session_refusal.ensures ∙ c.in-Some.is)) refl

pub returns-in_err-moves-clause-planned : goal.returns-in_err-moves-clause-planned
returns-in_err-moves-clause-planned g c =
    let f = err_from_is_err_and c.from_residual.result c.from_residual.ensures.1 in
    let why = c.in_err-moves.field-0.0 in
    let its = subst (λ (d : Descriptor). IsPlanFault d c.args.lv c.args.from c.args.to why) c.descriptor.ensures.same c.in_err-moves.ensures.fault in
    rw (f.1, f.2) (plan_fails c.args.driver.now.1 c.args.lv c.args.from c.args.to (sym c.session_refusal.ensures ∙ c.in_default.is) why its)

pub returns-then-not-has_numbers-clause-planned : goal.returns-then-not-has_numbers-clause-planned
returns-then-not-has_numbers-clause-planned g c =
    let may = subst (λ (d : Descriptor). plan_refusal d c.args.lv c.args.from c.args.to ≡ None) c.descriptor.ensures.same c.in_ok-moves.ensures.may in
    plan_short c.args.driver.now.1 c.args.lv c.args.from c.args.to (sym c.session_refusal.ensures ∙ c.in_default.is) may (sym c.has_numbers.ensures ∙ c.if-not-has_numbers.true)

pub returns-clause-planned : goal.returns-clause-planned
returns-clause-planned g c =
    let may = subst (λ (d : Descriptor). plan_refusal d c.args.lv c.args.from c.args.to ≡ None) c.descriptor.ensures.same c.in_ok-moves.ensures.may in
    let planned : c.in_ok-moves.moves ≡ planned_moves c.args.driver.now.1.descriptor c.args.lv c.args.from c.args.to = c.in_ok-moves.ensures.planned ∙ ap (λ (d : Descriptor). planned_moves d c.args.lv c.args.from c.args.to) c.descriptor.ensures.same in
    plan_stands c.args.driver.now.1 c.args.lv c.args.from c.args.to (sym c.session_refusal.ensures ∙ c.in_default.is) may c.in_ok-moves.moves (sym c.has_numbers.ensures ∙ c.if-not-has_numbers.false) planned
