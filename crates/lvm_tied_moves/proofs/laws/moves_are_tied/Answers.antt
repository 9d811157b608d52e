use Rattle.lvm_tied_moves.proofs.TiedLemmas.{moves_are_tied as its}
use Rattle.lvm_tied_moves.proofs.laws.moves_are_tied.Goals as goal

pub returns : goal.returns
returns c = its
