use Rattle.lvm_invariant.proofs.EventsLemmas.Each.{land_lost_keeps as lemma_of}
use Rattle.lvm_invariant.proofs.laws.write_is_lost.Goals as goal

pub returns : goal.returns
returns c = lemma_of
