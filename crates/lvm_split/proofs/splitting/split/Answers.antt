use Rattle.std.proofs.Common.{ℕ, Err}
use Rattle.std.proofs.lemmas.Result.{err_from_is_err_and}
use Rattle.lvm_session.specs.State.{State}
use Rattle.lvm_volume_plan.specs.passed.Core.{state_of, IsSettled}
use Rattle.lvm_volume_plan.specs.declared.fault.GroupFault.{GroupFault}
use Rattle.lvm_volume_plan.specs.declared.split.SplitPlan.{SplitPlan}
use Rattle.lvm_volume_plan.specs.PlannedSplit.{IsPlannedSplit}
use Rattle.lvm_volumes.specs.Endings.{StillHeld, KeepsFresh}
use Rattle.lvm_volumes.proofs.VolumesLemmas.{always_on}
use Rattle.lvm_volumes.proofs.EndingsLemmas.Fresh.{keeps_none}
use Rattle.lvm_volumes.proofs.EndingsLemmas.Holding.{still_none}
use Rattle.lvm_volumes.proofs.Leaving.{leaves_none}
use Rattle.lvm_split.specs.Splitting.{to_split}
use Rattle.lvm_split.proofs.SplittingLemmas.Answering.{own_plan, refused_split, split_fails, split_given, split_leaves, split_settled}
use Rattle.lvm_split.proofs.splitting.split.Goals as goal

pub returns-in_err-plan : goal.returns-in_err-plan
returns-in_err-plan g c =
    let s : State = state_of g.S.Shelf.device c.args.driver.now in
    let p = c.args.patience.now.left in
    let why : GroupFault = c.in_err-plan.field-0.0 in
    let e = err_from_is_err_and c.from_residual.result c.from_residual.ensures.1 in
    rw (e.1, e.2) (record {
      gives = refused_split c.args.lv c.args.name c.args.copies p s why c.in_err-plan.ensures.refused;
      settled = λ takes. always_on {A = ℕ} (Err why) (IsSettled s.core) (c.requires.settled takes);
      held = always_on {A = ℕ} (Err why) (StillHeld s s) (still_none s);
      fresh = always_on {A = ℕ} (Err why) (KeepsFresh s s) (keeps_none s);
      leaves = leaves_none (to_split c.args.lv c.args.name c.args.copies s.core) p s;
    })

pub part-requires-clause-settled : goal.part-requires-clause-settled
part-requires-clause-settled g c = c.requires.settled c.in_ok-plan.ensures.planned.may.counted.copies_for.parts.named.found.takes

pub part-requires-clause-may : goal.part-requires-clause-may
part-requires-clause-may g c =
    let a : State = state_of g.S.Shelf.device c.args.driver.now in
    (c.args.name, own_plan c.args.lv c.args.name c.args.copies c.in_ok-plan.plan a c.in_ok-plan.ensures.planned)

pub returns-in_err-part : goal.returns-in_err-part
returns-in_err-part g c =
    let plan : SplitPlan = c.in_ok-plan.plan in
    let a : State = state_of g.S.Shelf.device c.args.driver.now in
    let b : State = state_of g.S.Shelf.device c.part.new.driver in
    let planned : IsPlannedSplit c.args.lv c.args.name c.args.copies a.core plan = c.in_ok-plan.ensures.planned in
    let p = c.args.patience.now.left in
    let why : GroupFault = c.in_err-part.field-0.0 in
    let e = err_from_is_err_and c.from_residual-in_err-part.result c.from_residual-in_err-part.ensures.1 in
    rw (e.1, e.2) (record {
      gives = split_fails c.args.lv c.args.name c.args.copies plan a planned p b why c.in_err-part.ensures.ends;
      settled = λ takes. split_settled c.args.lv c.args.name c.args.copies plan a planned p b why c.in_err-part.ensures.ends;
      held = c.in_err-part.ensures.held;
      fresh = c.in_err-part.ensures.fresh;
      leaves = split_leaves c.args.lv c.args.name c.args.copies plan a planned p c.part.new.patience.left b c.part.ensures.leaves;
    })

pub returns : goal.returns
returns g c =
    let plan : SplitPlan = c.in_ok-plan.plan in
    let a : State = state_of g.S.Shelf.device c.args.driver.now in
    let b : State = state_of g.S.Shelf.device c.part.new.driver in
    let planned : IsPlannedSplit c.args.lv c.args.name c.args.copies a.core plan = c.in_ok-plan.ensures.planned in
    record {
      gives = split_given c.args.lv c.args.name c.args.copies plan a planned b c.in_ok-part.ensures.ends;
      settled = λ takes. c.in_ok-part.ensures.ends.settled;
      held = c.in_ok-part.ensures.held;
      fresh = c.in_ok-part.ensures.fresh;
      leaves = split_leaves c.args.lv c.args.name c.args.copies plan a planned c.args.patience.now.left c.part.new.patience.left b c.part.ensures.leaves;
    }
