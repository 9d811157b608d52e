use Rattle.lvm_invariant.proofs.EventsLemmas.Each.{submit_keeps as lemma_of}
use Rattle.lvm_invariant.proofs.laws.request_begins.Goals as goal

pub returns : goal.returns
returns c = lemma_of
