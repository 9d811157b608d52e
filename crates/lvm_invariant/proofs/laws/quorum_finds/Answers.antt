use Rattle.lvm_invariant.proofs.FoundLemmas.{quorum_finds as lemma_of}
use Rattle.lvm_invariant.proofs.laws.quorum_finds.Goals as goal

pub returns : goal.returns
returns c = lemma_of
