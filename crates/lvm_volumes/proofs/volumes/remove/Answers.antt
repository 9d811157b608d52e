use Rattle.std.proofs.Common.{inl}
use Rattle.std.proofs.lemmas.Result.{err_from_is_err_and}
use Rattle.lvm_volume_plan.specs.passed.Core.{state_of}
use Rattle.lvm_volume_plan.specs.PlannedVolume.{IsWithout}
use Rattle.lvm_session.specs.State.{State}
use Rattle.lvm_volumes.proofs.StagesLemmas.Unmarking.{gone, gone_ends, gone_keeps, gone_leaves, gone_still, spare, unnamed_leaves}
use Rattle.lvm_volumes.proofs.volumes.remove.Goals as goal

pub drop_mark-requires-clause-settled : goal.drop_mark-requires-clause-settled
drop_mark-requires-clause-settled g c = c.in_ok-unname.ensures.ends.settled

pub drop_mark-requires-clause-numbers : goal.drop_mark-requires-clause-numbers
drop_mark-requires-clause-numbers g c =
    let a : State = state_of g.S.Shelf.device c.args.driver.now in
    let b : State = state_of g.S.Shelf.device c.unname.new.driver in
    spare c.args.lv c.args.next a c.requires.without c.args.patience.now.left c.unname.new.patience.left b c.unname.ensures.leaves c.in_ok-unname.ensures.ends c.in_ok-unname.ensures.held

pub drop_mark-requires-clause-gone : goal.drop_mark-requires-clause-gone
drop_mark-requires-clause-gone g c =
    let a : State = state_of g.S.Shelf.device c.args.driver.now in
    let b : State = state_of g.S.Shelf.device c.unname.new.driver in
    gone c.args.lv c.args.next a c.requires.without c.args.patience.now.left c.unname.new.patience.left b c.unname.ensures.leaves c.in_ok-unname.ensures.ends c.in_ok-unname.ensures.held

pub returns-in_err-unname : goal.returns-in_err-unname
returns-in_err-unname g c =
    let a : State = state_of g.S.Shelf.device c.args.driver.now in
    let b : State = state_of g.S.Shelf.device c.unname.new.driver in
    let e = err_from_is_err_and c.from_residual.result c.from_residual.ensures.1 in
    rw (e.1, e.2) (record {
      ends = inl c.in_err-unname.ensures.ends;
      held = c.in_err-unname.ensures.held;
      fresh = c.in_err-unname.ensures.fresh;
      leaves = unnamed_leaves c.args.lv c.args.next a c.requires.without c.args.patience.now.left c.unname.new.patience.left b c.unname.ensures.leaves;
    })

pub returns : goal.returns
returns g c =
    let a : State = state_of g.S.Shelf.device c.args.driver.now in
    let b : State = state_of g.S.Shelf.device c.unname.new.driver in
    let e : State = state_of g.S.Shelf.device c.drop_mark.new.driver in
    let without : IsWithout c.args.lv a.core c.args.next = c.requires.without in
    let p = c.args.patience.now.left in
    let q = c.unname.new.patience.left in
    let r = c.drop_mark.new.patience.left in
    let leaves = c.unname.ensures.leaves in
    let unnamed = c.in_ok-unname.ensures.ends in
    let still = c.in_ok-unname.ensures.held in
    let marked = c.drop_mark.ensures in
    record {
      ends = gone_ends c.args.lv c.args.next a without p q b leaves unnamed still r e marked.leaves c.drop_mark.result marked.ends marked.clean;
      held = gone_still c.args.lv c.args.next a without p q b leaves unnamed still r e marked.leaves c.drop_mark.result marked.held marked.ends;
      fresh = gone_keeps c.args.lv c.args.next a without p q b leaves unnamed still r e marked.leaves c.drop_mark.result c.in_ok-unname.ensures.fresh marked.fresh marked.ends;
      leaves = gone_leaves c.args.lv c.args.next a without p q b leaves unnamed still r e marked.leaves;
    }
