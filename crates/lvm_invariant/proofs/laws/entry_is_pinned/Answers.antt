use Rattle.lvm_invariant.proofs.EventsLemmas.Each.{pin_keeps as lemma_of}
use Rattle.lvm_invariant.proofs.laws.entry_is_pinned.Goals as goal

pub returns : goal.returns
returns c = lemma_of
