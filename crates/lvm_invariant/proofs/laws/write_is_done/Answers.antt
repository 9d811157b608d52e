use Rattle.lvm_invariant.proofs.EventsLemmas.Each.{land_done_keeps as lemma_of}
use Rattle.lvm_invariant.proofs.laws.write_is_done.Goals as goal

pub returns : goal.returns
returns c = lemma_of
