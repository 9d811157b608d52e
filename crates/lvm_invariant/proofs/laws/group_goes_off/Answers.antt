use Rattle.lvm_invariant.proofs.OverLemmas.{off_keeps as lemma_of}
use Rattle.lvm_invariant.proofs.laws.group_goes_off.Goals as goal

pub returns : goal.returns
returns c = lemma_of
