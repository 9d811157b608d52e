use Rattle.lvm_invariant.proofs.EventsLemmas.Each.{move_status_keeps as lemma_of}
use Rattle.lvm_invariant.proofs.laws.status_moves.Goals as goal

pub returns : goal.returns
returns c = lemma_of
