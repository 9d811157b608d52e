use Rattle.lvm_recover.proofs.ExamplesLemmas.{pairs_recover}
use Rattle.lvm_recover.proofs.laws.pairs_recover.Goals as goal

pub returns : goal.returns
returns c = pairs_recover
