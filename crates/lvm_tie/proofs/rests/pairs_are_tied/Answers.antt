use Rattle.lvm_tie.proofs.PairsLemmas.Pairs.{pairs_are_tied as its}
use Rattle.lvm_tie.proofs.rests.pairs_are_tied.Goals as goal

pub returns : goal.returns
returns c = its
