use Rattle.std.proofs.Common.{◌≡◌}
use Rattle.lvm_session.specs.State.{state_of}
use Rattle.lvm_ranges.proofs.TakingLemmas.{TakingSoFar}
use Rattle.lvm_ranges.proofs.taking.take_range.Given as goal

abbrev pub invariant-loop-piece : goal.invariant-loop-piece
invariant-loop-piece g l = record {
  so_far : TakingSoFar (state_of g.S.Shelf.device l.fn.driver) (state_of g.S.Shelf.device l.driver) l.asked l.have l.total l.piece l.fault;
  shelf : l.driver.0 ≡ l.fn.driver.0;
}
