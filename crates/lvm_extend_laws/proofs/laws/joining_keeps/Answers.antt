use Rattle.lvm_extend_laws.proofs.JoiningLemmas.{joining_finds, joining_keeps}
use Rattle.lvm_extend_laws.proofs.laws.joining_keeps.Goals as goal

pub returns : goal.returns
returns c = record { keeps = joining_keeps; finds = joining_finds }
