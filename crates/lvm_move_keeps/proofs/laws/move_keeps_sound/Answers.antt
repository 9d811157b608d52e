use Rattle.lvm_move_keeps.proofs.KeepingLemmas.{move_keeps_sound as lemma_of}
use Rattle.lvm_move_keeps.proofs.laws.move_keeps_sound.Goals as goal

pub returns : goal.returns
returns c = lemma_of
