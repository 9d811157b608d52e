use Rattle.lvm_session.proofs.WorkedLemmas.Whole.{held_writes_are_sound}
use Rattle.lvm_session.proofs.laws.held_writes_are_sound.Goals as goal

pub returns : goal.returns
returns c = held_writes_are_sound
