use Rattle.lvm_session.specs.State.{state_of}
use Rattle.lvm_driver.specs.passed.Going.{RunsOn}
use Rattle.lvm_load.specs.Weaving.{TakesEach}
use Rattle.lvm_load.proofs.client.take_landed.Given as goal

abbrev pub invariant-loop-k : goal.invariant-loop-k
invariant-loop-k g l =
    TakesEach (state_of g.S.Shelf.device l.fn.driver) l.fn.clients l.k (state_of g.S.Shelf.device l.driver) l.clients
    × RunsOn (state_of g.S.Shelf.device l.fn.driver) (state_of g.S.Shelf.device l.driver)
