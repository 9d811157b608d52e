use Rattle.lvm_session.proofs.WorkedLemmas.Whole.{beginnings_are_sound}
use Rattle.lvm_session.proofs.laws.beginnings_are_sound.Goals as goal

pub returns : goal.returns
returns c = beginnings_are_sound
