use Rattle.lvm_invariant.proofs.EventsLemmas.Each.{land_read_failed_keeps as lemma_of}
use Rattle.lvm_invariant.proofs.laws.read_failed.Goals as goal

pub returns : goal.returns
returns c = lemma_of
