use Rattle.lvm_move_keeps.proofs.DrainedLemmas.{done_is_judged as lemma_of}
use Rattle.lvm_move_keeps.proofs.laws.done_is_judged.Goals as goal

pub returns : goal.returns
returns c = lemma_of
