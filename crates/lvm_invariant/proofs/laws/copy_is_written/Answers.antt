use Rattle.lvm_invariant.proofs.EventsLemmas.Each.{copy_write_keeps as lemma_of}
use Rattle.lvm_invariant.proofs.laws.copy_is_written.Goals as goal

pub returns : goal.returns
returns c = lemma_of
