use Rattle.lvm_move_laws.proofs.StandingLemmas.{next_stands as lemma_of}
use Rattle.lvm_move_laws.proofs.laws.next_stands.Goals as goal

pub returns : goal.returns
returns c = lemma_of
