use Rattle.lvm_invariant.proofs.EventsLemmas.Each.{clear_keeps as lemma_of}
use Rattle.lvm_invariant.proofs.laws.copy_is_cleared.Goals as goal

pub returns : goal.returns
returns c = lemma_of
