use Rattle.lvm_invariant.proofs.EventsLemmas.Each.{land_got_keeps as lemma_of}
use Rattle.lvm_invariant.proofs.laws.read_has_got.Goals as goal

pub returns : goal.returns
returns c = lemma_of
