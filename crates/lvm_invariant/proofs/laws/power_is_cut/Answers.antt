use Rattle.lvm_invariant.proofs.OverLemmas.{cut_keeps as lemma_of}
use Rattle.lvm_invariant.proofs.laws.power_is_cut.Goals as goal

pub returns : goal.returns
returns c = lemma_of
