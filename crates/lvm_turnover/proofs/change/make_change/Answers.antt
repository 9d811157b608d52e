use Rattle.lvm_session.specs.State.{State, state}
use Rattle.lvm_turnover.proofs.TurningLemmas.{may_of, ends_of, leaves_of}
use Rattle.lvm_turnover.proofs.change.make_change.Goals as goal

pub turn_group-requires-clause-may : goal.turn_group-requires-clause-may
turn_group-requires-clause-may g c = may_of c.args.change (state (g.S.Shelf.device c.args.driver.0) c.args.driver.1) c.requires.ready c.requires.may

pub returns : goal.returns
returns g c =
    let old : State = state (g.S.Shelf.device c.args.driver.0) c.args.driver.1 in
    let new : State = state (g.S.Shelf.device c.turn_group.result.0.0) c.turn_group.result.0.1 in
    let p = c.args.patience.now.left in
    let q = c.turn_group.new.patience.left in
    record {
      ends = ends_of c.args.change p old new c.turn_group.result.1 c.requires.ready c.turn_group.ensures.ends;
      left = c.turn_group.ensures.left;
      leaves = leaves_of c.args.change p q old new c.requires.ready c.turn_group.ensures.leaves;
    }
