use Rattle.lvm_keeps_events.proofs.MoveFallsLemmas.{admission_falls}
use Rattle.lvm_keeps_events.proofs.moves_laws.admission_falls.Goals as goal

pub returns : goal.returns
returns c = admission_falls
