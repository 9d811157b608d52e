use Rattle.lvm_move_keeps.proofs.StuckLemmas.{stuck_move_is_sound as lemma_of}
use Rattle.lvm_move_keeps.proofs.laws.stuck_move_is_sound.Goals as goal

pub returns : goal.returns
returns c = lemma_of
