use Rattle.lvm_move_laws.proofs.CommittingLemmas.{move_stays_kept as lemma_of}
use Rattle.lvm_move_laws.proofs.laws.move_stays_kept.Goals as goal

pub returns : goal.returns
returns c = lemma_of
