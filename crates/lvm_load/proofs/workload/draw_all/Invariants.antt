use Rattle.std.proofs.Common.{◌≤◌, ◌-◌, true, vec_capacity}
use Rattle.lvm_session.specs.State.{state_of}
use Rattle.lvm_load.specs.Waiting.{AreWaiting}
use Rattle.lvm_load.specs.Weaving.{Draws, weaving}
use Rattle.lvm_load.proofs.WeavingLemmas.{Runs}
use Rattle.lvm_load.proofs.workload.draw_all.Given as goal

abbrev pub invariant-loop-drawn : goal.invariant-loop-drawn
invariant-loop-drawn g l =
    Draws l.lv l.blocks (weaving (state_of g.S.Shelf.device l.fn.driver) l.fn.clients l.fn.rng l.fn.idle) l.drawn true (weaving (state_of g.S.Shelf.device l.driver) l.clients l.rng l.idle)
    × Runs (state_of g.S.Shelf.device l.fn.driver) (state_of g.S.Shelf.device l.driver) × (l.idle ≤ 1000000) × (l.drawn ≤ l.requests) × (131072 ≤ vec_capacity l.bytes) × AreWaiting l.driver.1 l.clients

abbrev pub decreases-loop-drawn : goal.decreases-loop-drawn
decreases-loop-drawn g l = l.requests - l.drawn
