use Rattle.lvm_session.proofs.WorkedLemmas.Flying.{flying_writes_are_sound}
use Rattle.lvm_session.proofs.laws.flying_writes_are_sound.Goals as goal

pub returns : goal.returns
returns c = flying_writes_are_sound
