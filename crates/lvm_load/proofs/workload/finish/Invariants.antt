use Rattle.std.proofs.Common.{◌≤◌}
use Rattle.lvm_session.specs.State.{state_of}
use Rattle.lvm_load.specs.Waiting.{AreWaiting}
use Rattle.lvm_load.specs.Weaving.{FinishesBy, turns_left}
use Rattle.lvm_load.proofs.WeavingLemmas.{Runs}
use Rattle.lvm_load.proofs.workload.finish.Given as goal

abbrev pub invariant-loop-driver : goal.invariant-loop-driver
invariant-loop-driver g l =
    FinishesBy (state_of g.S.Shelf.device l.fn.driver) l.fn.clients l.fn.idle (state_of g.S.Shelf.device l.driver) l.clients l.idle
    × Runs (state_of g.S.Shelf.device l.fn.driver) (state_of g.S.Shelf.device l.driver) × (l.idle ≤ 1000000) × AreWaiting l.driver.1 l.clients

abbrev pub decreases-loop-driver : goal.decreases-loop-driver
decreases-loop-driver g l = turns_left l.driver.1 l.idle
