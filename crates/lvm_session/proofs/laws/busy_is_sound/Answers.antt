use Rattle.lvm_session.proofs.BusyLemmas.{busy_is_sound}
use Rattle.lvm_session.proofs.laws.busy_is_sound.Goals as goal

pub returns : goal.returns
returns c = busy_is_sound
