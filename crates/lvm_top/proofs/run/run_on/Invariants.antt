use Rattle.lvm_session.specs.Left.{left_of}
use Rattle.lvm_session.specs.State.{state_of}
use Rattle.lvm_top.proofs.EndingLemmas.{MovesSoFar}
use Rattle.lvm_top.proofs.run.run_on.Given as goal

abbrev pub invariant-loop-driver : goal.invariant-loop-driver
invariant-loop-driver g l = MovesSoFar (state_of g.S.Shelf.device l.fn.driver) (state_of g.S.Shelf.device l.driver)

abbrev pub decreases-loop-driver : goal.decreases-loop-driver
decreases-loop-driver g l = left_of l.driver.1
