use Rattle.std.proofs.Common.{ℕ, sym, subst}
use Rattle.std.proofs.lemmas.Result.{err_from_is_err_and}
use Rattle.lvm_map.proofs.PlacesLemmas.{laid_out}
use Rattle.lvm_volume_plan.specs.Split.{RefusesSplit}
use Rattle.lvm_volume_plan.specs.PlannedSplit.{IsPlannedSplit}
use Rattle.lvm_volume_plan.proofs.DescriptorLemmas.{by_own_number, own_number}
use Rattle.lvm_volume_plan.proofs.split.SplitPlan.new.Goals as goal

pub check_names-requires : goal.check_names-requires
check_names-requires g c = record {
  found = record {
    takes = c.in_ok-takes_commands.ensures.takes;
    volume = by_own_number c.descriptor.result.now c.args.driver.now.1.descriptor c.args.lv c.in-Some.row.now c.in-Some.ensures c.descriptor.ensures.same;
  };
}

pub returns-in_err-check_names-clause-refused : goal.returns-in_err-check_names-clause-refused
returns-in_err-check_names-clause-refused g c =
    let e = err_from_is_err_and c.from_residual-in_err-check_names.result c.from_residual-in_err-check_names.ensures.1 in
    rw (e.1, e.2) (subst (λ (n : ℕ). RefusesSplit n c.args.name c.args.copies c.args.driver.now.1 c.in_err-check_names.field-0.0) (own_number c.descriptor.result.now c.args.lv c.in-Some.row.now c.in-Some.ensures) c.in_err-check_names.ensures.refused)

pub check_copies-requires-clause-laid_out : goal.check_copies-requires-clause-laid_out
check_copies-requires-clause-laid_out g c = laid_out c.descriptor.result.now c.args.lv c.in-Some.row.now c.descriptor.ensures.valid (sym c.in-Some.ensures)

pub returns-in-Ok-clause-planned : goal.returns-in-Ok-clause-planned
returns-in-Ok-clause-planned g c = subst (λ (n : ℕ). IsPlannedSplit n c.args.name c.args.copies c.args.driver.now.1 c.in-Ok.plan) (own_number c.descriptor.result.now c.args.lv c.in-Some.row.now c.in-Some.ensures) c.in-Ok.ensures
