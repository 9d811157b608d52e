use Rattle.lvm_settled.proofs.ExamplesLemmas.Examples.{pairs_settle}
use Rattle.lvm_settled.proofs.laws.pairs_settle.Goals as goal

pub returns : goal.returns
returns c = pairs_settle
