use Rattle.lvm_even.proofs.ExamplesLemmas.Examples.{pairs_rest}
use Rattle.lvm_even.proofs.laws.pairs_rest.Goals as goal

pub returns : goal.returns
returns c = pairs_rest
