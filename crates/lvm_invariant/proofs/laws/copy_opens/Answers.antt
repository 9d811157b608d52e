use Rattle.lvm_invariant.proofs.EventsLemmas.Each.{open_keeps as lemma_of}
use Rattle.lvm_invariant.proofs.laws.copy_opens.Goals as goal

pub returns : goal.returns
returns c = lemma_of
