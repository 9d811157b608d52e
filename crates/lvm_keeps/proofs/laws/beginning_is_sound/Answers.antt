use Rattle.lvm_keeps.proofs.BeginsLemmas.{beginning_is_sound}
use Rattle.lvm_keeps.proofs.laws.beginning_is_sound.Goals as goal

pub returns : goal.returns
returns c = beginning_is_sound
