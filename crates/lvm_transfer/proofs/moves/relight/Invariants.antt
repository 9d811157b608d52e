use Rattle.std.proofs.Common.{length}
use Rattle.lvm_transfer.proofs.TransferLemmas.Waiting.{FreesOnly}
use Rattle.lvm_transfer.proofs.moves.relight.Given as goal

abbrev pub invariant-loop : goal.invariant-loop
invariant-loop g l = FreesOnly (g.S.Shelf.device l.fn.shelf) (g.S.Shelf.device l.shelf)

abbrev pub decreases-loop : goal.decreases-loop
decreases-loop g l = length (g.S.Shelf.device l.shelf).freed
