use Rattle.std.proofs.Common.{◌+◌}
use Rattle.lvm_session.specs.Left.{left_of}
use Rattle.lvm_session.specs.State.{state_of}
use Rattle.lvm_driver.proofs.DrainsLemmas.{Goes}
use Rattle.lvm_driver.proofs.driver.Driver.drain.Given as goal

abbrev pub invariant-loop-patience : goal.invariant-loop-patience
invariant-loop-patience g l = Goes (state_of g.S.Shelf.device l.fn.self) (state_of g.S.Shelf.device l.self) l.fn.patience.left l.patience.left

abbrev pub decreases-loop-patience : goal.decreases-loop-patience
decreases-loop-patience g l = left_of l.self.1 + l.patience.left
