use Rattle.lvm_invariant.proofs.OverLemmas.{over_stays as lemma_of}
use Rattle.lvm_invariant.proofs.laws.answers_after_the_end.Goals as goal

pub returns : goal.returns
returns c = lemma_of
