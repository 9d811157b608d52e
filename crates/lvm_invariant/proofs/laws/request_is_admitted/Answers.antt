use Rattle.lvm_invariant.proofs.EventsLemmas.Each.{admit_keeps as lemma_of}
use Rattle.lvm_invariant.proofs.laws.request_is_admitted.Goals as goal

pub returns : goal.returns
returns c = lemma_of
