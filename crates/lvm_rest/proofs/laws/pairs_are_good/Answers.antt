-- pairs_are_good
use Rattle.lvm_rest.proofs.ExamplesLemmas.{pairs_are_good}
use Rattle.lvm_rest.proofs.laws.pairs_are_good.Goals as goal

pub returns : goal.returns
returns c = pairs_are_good
