use Rattle.std.proofs.Common.{ℕ, Err}
use Rattle.std.proofs.lemmas.Result.{err_from_is_err_and}
use Rattle.lvm_volume_plan.specs.passed.Core.{CommitFault, state_of, IsSettled}
use Rattle.lvm_session.specs.State.{State}
use Rattle.lvm_volumes.specs.Endings.{StillHeld, KeepsFresh}
use Rattle.lvm_volumes.specs.Volumes.{to_make}
use Rattle.lvm_volumes.proofs.VolumesLemmas.{refused_mklv, always_on, made_leaves, make_settled, make_given, make_fails}
use Rattle.lvm_volumes.proofs.EndingsLemmas.Fresh.{keeps_none}
use Rattle.lvm_volumes.proofs.EndingsLemmas.Holding.{still_none}
use Rattle.lvm_volumes.proofs.Leaving.{leaves_none}
use Rattle.lvm_volumes.proofs.volumes.mklv.Goals as goal
use Rattle.lvm_volume_plan.specs.declared.fault.GroupFault.{GroupFault}
use Rattle.lvm_volume_plan.specs.declared.new_volume.NewVolume.{NewVolume}
use Rattle.lvm_volume_plan.specs.declared.new_volume.VolumePlan.{VolumePlan}
use Rattle.lvm_volume_plan.specs.PlannedVolume.{IsPlannedVolume}

pub returns-in_err-plan : goal.returns-in_err-plan
returns-in_err-plan g c =
    let v : NewVolume = record { name = c.args.name; copies = c.args.copies; mode = c.args.mode; policy = c.args.policy; lps = c.args.lps } in
    let s : State = state_of g.S.Shelf.device c.args.driver.now in
    let p = c.args.patience.now.left in
    let why : GroupFault = c.in_err-plan.field-0.0 in
    let e = err_from_is_err_and c.from_residual.result c.from_residual.ensures.1 in
    rw (e.1, e.2) (record {
      gives = refused_mklv v p s why c.in_err-plan.ensures.refused;
      settled = λ takes. always_on {A = ℕ} (Err why) (IsSettled s.core) (c.requires.settled takes);
      held = always_on {A = ℕ} (Err why) (StillHeld s s) (still_none s);
      fresh = always_on {A = ℕ} (Err why) (KeepsFresh s s) (keeps_none s);
      leaves = leaves_none (to_make v s.core) p s;
    })

pub returns-in_err-make : goal.returns-in_err-make
returns-in_err-make g c =
    let v : NewVolume = record { name = c.args.name; copies = c.args.copies; mode = c.args.mode; policy = c.args.policy; lps = c.args.lps } in
    let plan : VolumePlan = c.in_ok-plan.plan in
    let a : State = state_of g.S.Shelf.device c.args.driver.now in
    let b : State = state_of g.S.Shelf.device c.make.new.driver in
    let planned : IsPlannedVolume v a.core plan = c.in_ok-plan.ensures.planned in
    let p = c.args.patience.now.left in
    let why : CommitFault = c.in_err-make.field-0.0 in
    let ends = c.in_err-make.ensures.ends in
    let e = err_from_is_err_and c.from_residual-in_err-make.result c.from_residual-in_err-make.ensures.1 in
    rw (e.1, e.2) (record {
      gives = make_fails v plan a planned p b why ends;
      settled = λ takes. make_settled v plan a planned p b why ends;
      held = c.in_err-make.ensures.held;
      fresh = c.in_err-make.ensures.fresh;
      leaves = made_leaves v plan a planned p c.make.new.patience.left b c.make.ensures.leaves;
    })

pub returns : goal.returns
returns g c =
    let v : NewVolume = record { name = c.args.name; copies = c.args.copies; mode = c.args.mode; policy = c.args.policy; lps = c.args.lps } in
    let plan : VolumePlan = c.in_ok-plan.plan in
    let a : State = state_of g.S.Shelf.device c.args.driver.now in
    let b : State = state_of g.S.Shelf.device c.make.new.driver in
    let planned : IsPlannedVolume v a.core plan = c.in_ok-plan.ensures.planned in
    record {
      gives = make_given v plan a planned b c.in_ok-make.ensures.ends;
      settled = λ takes. c.in_ok-make.ensures.ends.settled;
      held = c.in_ok-make.ensures.held;
      fresh = c.in_ok-make.ensures.fresh;
      leaves = made_leaves v plan a planned c.args.patience.now.left c.make.new.patience.left b c.make.ensures.leaves;
    }
