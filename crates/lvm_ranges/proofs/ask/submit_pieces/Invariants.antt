use Rattle.std.proofs.Common.{◌≡◌, ◌≤◌, ◌-◌, vec_capacity}
use Rattle.lvm_driver.specs.passed.Going.{RunsOn}
use Rattle.lvm_session.specs.State.{state_of}
use Rattle.lvm_ranges.proofs.PiecesLemmas.{AskedSoFar}
use Rattle.lvm_ranges.proofs.ask.submit_pieces.Given as goal

abbrev pub invariant-loop-from : goal.invariant-loop-from
invariant-loop-from g l = record {
  so_far : AskedSoFar l.fn.write l.fn.lv l.fn.at l.end l.fn.driver.1 l.driver.1 l.from l.last;
  shelf : l.driver.0 ≡ l.fn.driver.0;
  runs : RunsOn (state_of g.S.Shelf.device l.fn.driver) (state_of g.S.Shelf.device l.driver);
  room : 131072 ≤ vec_capacity l.bytes;
}

abbrev pub decreases-loop-from : goal.decreases-loop-from
decreases-loop-from g l = l.end - l.from
