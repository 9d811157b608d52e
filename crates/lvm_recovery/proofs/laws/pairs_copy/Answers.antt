use Rattle.lvm_recovery.proofs.ExamplesLemmas.{pairs_copy as lemma_of}
use Rattle.lvm_recovery.proofs.laws.pairs_copy.Goals as goal

pub returns : goal.returns
returns c = lemma_of
