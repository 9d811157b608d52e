use Rattle.lvm_invariant.proofs.EventsLemmas.Each.{commit_keeps as lemma_of}
use Rattle.lvm_invariant.proofs.laws.update_is_committed.Goals as goal

pub returns : goal.returns
returns c = lemma_of
