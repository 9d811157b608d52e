use Rattle.lvm_invariant.proofs.EventsLemmas.Each.{start_write_keeps as lemma_of}
use Rattle.lvm_invariant.proofs.laws.write_starts.Goals as goal

pub returns : goal.returns
returns c = lemma_of
