use Rattle.lvm_session.specs.State.{state_of}
use Rattle.lvm_ranges.specs.Syncing.{partition_copies}
use Rattle.lvm_ranges.proofs.SyncingLemmas.Passing.{PassedSoFar}
use Rattle.lvm_ranges.proofs.passes.pass_volume.Given as goal

abbrev pub invariant-loop-lp : goal.invariant-loop-lp
invariant-loop-lp g l = PassedSoFar (partition_copies l.fn.driver.1.descriptor l.fn.lv) (state_of g.S.Shelf.device l.fn.driver) (state_of g.S.Shelf.device l.driver) l.fn.tally l.tally l.lp l.fn.patience.left l.patience.left
