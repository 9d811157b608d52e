use Rattle.lvm_invariant.proofs.EventsLemmas.Each.{begin_update_keeps as lemma_of}
use Rattle.lvm_invariant.proofs.laws.update_begins.Goals as goal

pub returns : goal.returns
returns c = lemma_of
