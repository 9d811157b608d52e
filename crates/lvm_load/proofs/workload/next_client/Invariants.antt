use Rattle.std.proofs.Common.{◌≤◌}
use Rattle.lvm_session.specs.State.{state_of}
use Rattle.lvm_load.specs.Waiting.{AreWaiting}
use Rattle.lvm_load.specs.Weaving.{PassesOn, turns_left, weaving}
use Rattle.lvm_load.proofs.WeavingLemmas.{Runs}
use Rattle.lvm_load.proofs.workload.next_client.Given as goal

abbrev pub invariant-loop-idle : goal.invariant-loop-idle
invariant-loop-idle g l =
    PassesOn (weaving (state_of g.S.Shelf.device l.fn.driver) l.fn.clients l.fn.rng l.fn.idle) (weaving (state_of g.S.Shelf.device l.driver) l.clients l.rng l.idle)
    × Runs (state_of g.S.Shelf.device l.fn.driver) (state_of g.S.Shelf.device l.driver) × (l.idle ≤ 1000000) × AreWaiting l.driver.1 l.clients

abbrev pub decreases-loop-idle : goal.decreases-loop-idle
decreases-loop-idle g l = turns_left l.driver.1 l.idle
