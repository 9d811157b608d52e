use Rattle.std.proofs.Common.{◌+◌}
use Rattle.lvm_session.specs.Left.{left_of}
use Rattle.lvm_session.specs.State.{state_of}
use Rattle.lvm_ranges.specs.Passing.{copy_of}
use Rattle.lvm_ranges.proofs.PassingLemmas.Judging.{JudgedSoFar}
use Rattle.lvm_ranges.proofs.copies.open_stale.Given as goal

abbrev pub invariant-loop-pp : goal.invariant-loop-pp
invariant-loop-pp g l = JudgedSoFar (copy_of l.fn.lv l.fn.lp l.fn.number l.fn.pp) (state_of g.S.Shelf.device l.fn.driver) (state_of g.S.Shelf.device l.driver) l.fn.patience.left l.patience.left

abbrev pub decreases-loop-pp : goal.decreases-loop-pp
decreases-loop-pp g l = left_of l.driver.1 + l.patience.left
