use Rattle.std.proofs.Common.{◌+◌}
use Rattle.lvm_session.specs.Left.{left_of}
use Rattle.lvm_session.specs.State.{state_of}
use Rattle.lvm_ranges.proofs.LandingLemmas.{Costs}
use Rattle.lvm_ranges.proofs.landing.await_range.Given as goal

abbrev pub invariant-loop-driver : goal.invariant-loop-driver
invariant-loop-driver g l = Costs l.asked (state_of g.S.Shelf.device l.fn.driver) (state_of g.S.Shelf.device l.driver) l.fn.patience.left l.patience.left

abbrev pub decreases-loop-driver : goal.decreases-loop-driver
decreases-loop-driver g l = left_of l.driver.1 + l.patience.left
