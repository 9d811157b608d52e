use Rattle.lvm_invariant.proofs.EventsLemmas.Each.{enter_step_keeps as lemma_of}
use Rattle.lvm_invariant.proofs.laws.step_enters.Goals as goal

pub returns : goal.returns
returns c = lemma_of
