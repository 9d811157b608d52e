use Rattle.lvm_keeps_events.proofs.TurningLemmas.{turn_ends}
use Rattle.lvm_keeps_events.proofs.turn_laws.turn_ends.Goals as goal

pub returns : goal.returns
returns c = turn_ends
