use Rattle.lvm_invariant.proofs.EventsLemmas.Each.{transfer_keeps as lemma_of}
use Rattle.lvm_invariant.proofs.laws.write_goes_on.Goals as goal

pub returns : goal.returns
returns c = lemma_of
