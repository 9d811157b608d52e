use Rattle.std.proofs.Common.{◌+◌}
use Rattle.lvm_session.specs.Left.{left_of}
use Rattle.lvm_session.specs.State.{state_of}
use Rattle.lvm_ranges.proofs.PassingLemmas.Bringing.{BroughtSoFar}
use Rattle.lvm_ranges.proofs.copies.bring_up.Given as goal

abbrev pub invariant-loop-driver : goal.invariant-loop-driver
invariant-loop-driver g l = BroughtSoFar (state_of g.S.Shelf.device l.fn.driver) (state_of g.S.Shelf.device l.driver) l.fn.patience.left l.patience.left

abbrev pub decreases-loop-driver : goal.decreases-loop-driver
decreases-loop-driver g l = left_of l.driver.1 + l.patience.left
