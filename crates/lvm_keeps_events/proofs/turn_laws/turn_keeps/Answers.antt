use Rattle.lvm_keeps_events.proofs.TurningLemmas.{turn_keeps}
use Rattle.lvm_keeps_events.proofs.turn_laws.turn_keeps.Goals as goal

pub returns : goal.returns
returns c = turn_keeps
