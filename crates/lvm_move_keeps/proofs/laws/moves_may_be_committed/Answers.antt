use Rattle.lvm_move_keeps.proofs.WorkedLemmas.{moves_may_be_committed as lemma_of}
use Rattle.lvm_move_keeps.proofs.laws.moves_may_be_committed.Goals as goal

pub returns : goal.returns
returns c = lemma_of
