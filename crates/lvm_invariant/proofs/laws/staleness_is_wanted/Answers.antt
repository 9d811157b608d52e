use Rattle.lvm_invariant.proofs.EventsLemmas.Each.{want_keeps as lemma_of}
use Rattle.lvm_invariant.proofs.laws.staleness_is_wanted.Goals as goal

pub returns : goal.returns
returns c = lemma_of
