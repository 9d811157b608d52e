use Rattle.lvm_session.specs.State.{state_of}
use Rattle.lvm_ranges.specs.Syncing.{copy_in}
use Rattle.lvm_ranges.proofs.SyncingLemmas.Passing.{PassedSoFar}
use Rattle.lvm_ranges.proofs.passes.pass_partition.Given as goal

abbrev pub invariant-loop-place : goal.invariant-loop-place
invariant-loop-place g l = PassedSoFar (copy_in l.fn.driver.1.descriptor l.fn.lv l.fn.lp) (state_of g.S.Shelf.device l.fn.driver) (state_of g.S.Shelf.device l.driver) l.fn.tally l.tally l.place l.fn.patience.left l.patience.left
