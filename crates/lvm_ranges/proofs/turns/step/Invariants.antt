use Rattle.lvm_session.specs.State.{state_of}
use Rattle.lvm_ranges.proofs.SteppingLemmas.{StepsSoFar}
use Rattle.lvm_ranges.proofs.turns.step.Given as goal

abbrev pub invariant-loop-moved : goal.invariant-loop-moved
invariant-loop-moved g l = StepsSoFar (state_of g.S.Shelf.device l.fn.driver) (state_of g.S.Shelf.device l.driver) l.moved
