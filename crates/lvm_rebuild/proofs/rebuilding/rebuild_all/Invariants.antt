use Rattle.lvm_session.specs.State.{state_of}
use Rattle.lvm_rebuild.proofs.RebuildingLemmas.{RebuiltSoFar}
use Rattle.lvm_rebuild.proofs.rebuilding.rebuild_all.Given as goal

abbrev pub invariant-loop-copy : goal.invariant-loop-copy
invariant-loop-copy g l = RebuiltSoFar l.lost (state_of g.S.Shelf.device l.initial.driver) (state_of g.S.Shelf.device l.driver) l.initial.patience.left l.patience.left l.copies l.copy-index
