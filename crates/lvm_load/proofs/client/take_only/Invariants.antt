use Rattle.std.proofs.Common.{◌≤◌, ◌-◌, length}
use Rattle.lvm_session.specs.State.{state_of}
use Rattle.lvm_driver.specs.passed.Going.{RunsOn}
use Rattle.lvm_load.specs.Waiting.{AreWaitingBut}
use Rattle.lvm_load.specs.Weaving.{TakesEach}
use Rattle.lvm_load.proofs.client.take_only.Given as goal

abbrev pub invariant-loop-k : goal.invariant-loop-k
invariant-loop-k g l = record {
  within : l.k ≤ length l.fn.clients;
  takes : TakesEach (state_of g.S.Shelf.device l.fn.driver) l.fn.clients l.k (state_of g.S.Shelf.device l.driver) l.clients;
  runs : RunsOn (state_of g.S.Shelf.device l.fn.driver) (state_of g.S.Shelf.device l.driver);
  waiting : AreWaitingBut l.id l.driver.1 l.clients;
}

abbrev pub decreases-loop-k : goal.decreases-loop-k
decreases-loop-k g l = l.count - l.k
