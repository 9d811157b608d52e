use Rattle.lvm_move_keeps.proofs.WaitingLemmas.{waiting_stays as lemma_of}
use Rattle.lvm_move_keeps.proofs.laws.waiting_stays.Goals as goal

pub returns : goal.returns
returns c = lemma_of
