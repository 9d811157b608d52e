use Rattle.lvm_session.specs.State.{state_of}
use Rattle.lvm_driver.proofs.passed.Going.{runs_both, runs_none}
use Rattle.lvm_load.specs.Weaving.{NextClient, NoClient}
use Rattle.lvm_load.proofs.client.take_landed.Goals as goal

pub loop-k-init : goal.loop-k-init
loop-k-init g c = (NoClient, runs_none (state_of g.S.Shelf.device c.args.driver.now))

pub loop-k-preserved : goal.loop-k-preserved
loop-k-preserved g c =
    let device = g.S.Shelf.device in
    (NextClient c.loop-k.invariant.0 c.take.ensures.takes, runs_both (state_of device c.args.driver.now) (state_of device c.loop-k.driver) (state_of device c.take.new.driver) c.loop-k.invariant.1 c.take.ensures.runs)
