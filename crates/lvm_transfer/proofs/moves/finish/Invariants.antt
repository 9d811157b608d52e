use Rattle.lvm_transfer.proofs.TransferLemmas.Waiting.{Borne}
use Rattle.lvm_transfer.proofs.moves.finish.Given as goal

abbrev pub invariant-loop : goal.invariant-loop
invariant-loop g l = Borne (g.S.Shelf.device l.fn.shelf) (g.S.Shelf.device l.shelf) l.fn.patience.left l.patience.left l.counter
