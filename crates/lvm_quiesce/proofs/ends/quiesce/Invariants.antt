use Rattle.std.proofs.Common.{◌+◌, length}
use Rattle.lvm_quiesce.proofs.LawsLemmas.Ending.{EndedSoFar}
use Rattle.lvm_quiesce.proofs.ends.quiesce.Given as goal

abbrev pub invariant-loop-shelf : goal.invariant-loop-shelf
invariant-loop-shelf g l = EndedSoFar l.fn.patience.left l.patience.left (g.S.Shelf.device l.fn.shelf) (g.S.Shelf.device l.shelf)

abbrev pub decreases-loop-shelf : goal.decreases-loop-shelf
decreases-loop-shelf g l = length (g.S.Shelf.device l.shelf).flights + l.patience.left
