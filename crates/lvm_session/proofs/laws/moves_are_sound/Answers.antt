use Rattle.lvm_session.proofs.WorkedLemmas.Moved.{moves_are_sound}
use Rattle.lvm_session.proofs.laws.moves_are_sound.Goals as goal

pub returns : goal.returns
returns c = moves_are_sound
