use Rattle.lvm_move_laws.proofs.ServingLemmas.{move_serves as lemma_of}
use Rattle.lvm_move_laws.proofs.laws.move_serves.Goals as goal

pub returns : goal.returns
returns c = lemma_of
