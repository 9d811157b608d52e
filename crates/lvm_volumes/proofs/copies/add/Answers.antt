use Rattle.std.proofs.lemmas.Result.{err_from_is_err_and}
use Rattle.lvm_volume_plan.specs.passed.Core.{CommitFault, state_of, HasStated}
use Rattle.lvm_session.specs.State.{State}
use Rattle.lvm_volumes.specs.Endings.{StillHeld, KeepsFresh}
use Rattle.lvm_volumes.proofs.StagesLemmas.Breaking.{stopped}
use Rattle.lvm_volumes.proofs.StagesLemmas.Entering.{has_numbers}
use Rattle.lvm_volume_plan.specs.PlannedCopies.{ArePlanned}
use Rattle.lvm_volumes.proofs.MirrorStagesLemmas.{added_unused, mark_break_leaves, mark_break, mid_numbers, mid_alike, all_leaves, all_still, all_keeps, all_ends}
use Rattle.lvm_volumes.proofs.copies.add.Goals as goal

pub set_status-requires-clause-numbers : goal.set_status-requires-clause-numbers
set_status-requires-clause-numbers g c = has_numbers c.args.driver.now.1 c.requires.may.1.1.group c.requires.may.1.1.may.room

pub set_status-requires-clause-unused : goal.set_status-requires-clause-unused
set_status-requires-clause-unused g c =
    added_unused c.requires.may.0 c.requires.may.1.0 c.args.added.now c.args.next (state_of g.S.Shelf.device c.args.driver.now) c.requires.settled c.requires.may.1.1

pub returns-in_err-set_status : goal.returns-in_err-set_status
returns-in_err-set_status g c =
    let a : State = state_of g.S.Shelf.device c.args.driver.now in
    let b : State = state_of g.S.Shelf.device c.set_status.new.self in
    let p = c.args.patience.now.left in
    let q = c.set_status.new.patience.left in
    let why : CommitFault = c.in_err-set_status.field-0.0 in
    let e = err_from_is_err_and c.from_residual.result c.from_residual.ensures.1 in
    rw (e.1, e.2) (record {
      ends = mark_break c.requires.may.0 c.requires.may.1.0 c.args.added.now c.args.next a c.requires.settled c.requires.may.1.1 p q b c.set_status.ensures.leaves why c.in_err-set_status.ensures.ends;
      held = stopped (HasStated a.core.descriptor a b) (StillHeld a b) p a b why c.in_err-set_status.ensures.ends;
      fresh = stopped (HasStated a.core.descriptor a b) (KeepsFresh a b) p a b why c.in_err-set_status.ensures.ends;
      leaves = mark_break_leaves c.requires.may.0 c.requires.may.1.0 c.args.added.now c.args.next a c.requires.settled c.requires.may.1.1 p q b c.set_status.ensures.leaves;
    })

pub commit-requires-clause-settled : goal.commit-requires-clause-settled
commit-requires-clause-settled g c = c.in_ok-set_status.ensures.ends.settled

pub commit-requires-clause-numbers : goal.commit-requires-clause-numbers
commit-requires-clause-numbers g c =
    mid_numbers c.requires.may.0 c.requires.may.1.0 c.args.added.now c.args.next (state_of g.S.Shelf.device c.args.driver.now) c.requires.settled c.requires.may.1.1
    c.args.patience.now.left c.set_status.new.patience.left (state_of g.S.Shelf.device c.set_status.new.self) c.set_status.ensures.leaves c.in_ok-set_status.ensures.ends c.set_status.ensures.marks

pub commit-requires-clause-alike : goal.commit-requires-clause-alike
commit-requires-clause-alike g c =
    mid_alike c.requires.may.0 c.requires.may.1.0 c.args.added.now c.args.next (state_of g.S.Shelf.device c.args.driver.now) c.requires.settled c.requires.may.1.1
    c.args.patience.now.left c.set_status.new.patience.left (state_of g.S.Shelf.device c.set_status.new.self) c.set_status.ensures.leaves c.in_ok-set_status.ensures.ends c.set_status.ensures.marks

pub returns : goal.returns
returns g c =
    let a : State = state_of g.S.Shelf.device c.args.driver.now in
    let b : State = state_of g.S.Shelf.device c.set_status.new.self in
    let n : State = state_of g.S.Shelf.device c.commit.new.self in
    let p = c.args.patience.now.left in
    let q = c.set_status.new.patience.left in
    let r = c.commit.new.patience.left in
    let lv = c.requires.may.0 in
    let copies = c.requires.may.1.0 in
    let planned : ArePlanned lv copies a.core c.args.added.now c.args.next = c.requires.may.1.1 in
    let s = c.set_status.ensures in
    let done = c.in_ok-set_status.ensures.ends in
    record {
      ends = all_ends lv copies c.args.added.now c.args.next a c.requires.settled planned p q b s.leaves done s.marks r n c.commit.ensures.leaves c.commit.ensures.left c.commit.result c.commit.ensures.ends;
      held = all_still lv copies c.args.added.now c.args.next a c.requires.settled planned p q b s.leaves done s.marks r n c.commit.ensures.leaves c.commit.ensures.left c.commit.result c.commit.ensures.ends;
      fresh = all_keeps lv copies c.args.added.now c.args.next a c.requires.settled planned p q b s.leaves done s.marks r n c.commit.ensures.leaves c.commit.ensures.left c.commit.result c.commit.ensures.ends;
      leaves = all_leaves lv copies c.args.added.now c.args.next a c.requires.settled planned p q b s.leaves done s.marks r n c.commit.ensures.leaves c.commit.ensures.left;
    }
