use Rattle.std.proofs.Common.{Err}
use Rattle.std.proofs.lemmas.Result.{err_from_is_err_and}
use Rattle.lvm_volume_plan.specs.passed.Core.{CommitFault, state_of, IsSettled}
use Rattle.lvm_session.specs.State.{State}
use Rattle.lvm_volumes.specs.Endings.{StillHeld, KeepsFresh}
use Rattle.lvm_volumes.specs.Volumes.{to_remove}
use Rattle.lvm_volumes.proofs.VolumesLemmas.{refused_rmlv, always_on, removed_leaves, remove_settled, remove_given, remove_fails}
use Rattle.lvm_volumes.proofs.EndingsLemmas.Fresh.{keeps_none}
use Rattle.lvm_volumes.proofs.EndingsLemmas.Holding.{still_none}
use Rattle.lvm_volumes.proofs.Leaving.{leaves_none}
use Rattle.lvm_volumes.proofs.volumes.rmlv.Goals as goal
use Rattle.lvm_volume_plan.specs.declared.fault.GroupFault.{GroupFault}
use Rattle.lvm_volume_plan.specs.PlannedVolume.{IsWithout}

pub returns-in_err-next : goal.returns-in_err-next
returns-in_err-next g c =
    let s : State = state_of g.S.Shelf.device c.args.driver.now in
    let p = c.args.patience.now.left in
    let why : GroupFault = c.in_err-next.field-0.0 in
    let e = err_from_is_err_and c.from_residual.result c.from_residual.ensures.1 in
    rw (e.1, e.2) (record {
      gives = refused_rmlv c.args.lv p s why c.in_err-next.ensures.refused;
      settled = λ takes. always_on {A = Unit {0}} (Err why) (IsSettled s.core) (c.requires.settled takes);
      held = always_on {A = Unit {0}} (Err why) (StillHeld s s) (still_none s);
      fresh = always_on {A = Unit {0}} (Err why) (KeepsFresh s s) (keeps_none s);
      leaves = leaves_none (to_remove c.args.lv s.core) p s;
    })

pub returns-in_err-remove : goal.returns-in_err-remove
returns-in_err-remove g c =
    let a : State = state_of g.S.Shelf.device c.args.driver.now in
    let b : State = state_of g.S.Shelf.device c.remove.new.driver in
    let without : IsWithout c.args.lv a.core c.in_ok-next.next = c.in_ok-next.ensures.without in
    let p = c.args.patience.now.left in
    let why : CommitFault = c.in_err-remove.field-0.0 in
    let ends = c.in_err-remove.ensures.ends in
    let e = err_from_is_err_and c.from_residual-in_err-remove.result c.from_residual-in_err-remove.ensures.1 in
    rw (e.1, e.2) (record {
      gives = remove_fails c.args.lv c.in_ok-next.next a without p b why ends;
      settled = λ takes. remove_settled c.args.lv c.in_ok-next.next a without p b why ends;
      held = c.in_err-remove.ensures.held;
      fresh = c.in_err-remove.ensures.fresh;
      leaves = removed_leaves c.args.lv c.in_ok-next.next a without p c.remove.new.patience.left b c.remove.ensures.leaves;
    })

pub returns : goal.returns
returns g c =
    let a : State = state_of g.S.Shelf.device c.args.driver.now in
    let b : State = state_of g.S.Shelf.device c.remove.new.driver in
    let without : IsWithout c.args.lv a.core c.in_ok-next.next = c.in_ok-next.ensures.without in
    record {
      gives = remove_given c.args.lv c.in_ok-next.next a without b c.in_ok-remove.ensures.ends;
      settled = λ takes. c.in_ok-remove.ensures.ends.unnamed.settled;
      held = c.in_ok-remove.ensures.held;
      fresh = c.in_ok-remove.ensures.fresh;
      leaves = removed_leaves c.args.lv c.in_ok-next.next a without c.args.patience.now.left c.remove.new.patience.left b c.remove.ensures.leaves;
    }
