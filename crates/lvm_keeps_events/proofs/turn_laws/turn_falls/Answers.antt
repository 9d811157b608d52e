use Rattle.lvm_keeps_events.proofs.TurningLemmas.{turn_falls}
use Rattle.lvm_keeps_events.proofs.turn_laws.turn_falls.Goals as goal

pub returns : goal.returns
returns c = turn_falls
