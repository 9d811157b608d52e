use Rattle.lvm_keeps_events.proofs.StatusEndsLemmas.EndsFall.{status_end_falls}
use Rattle.lvm_keeps_events.proofs.status_laws.status_end_falls.Goals as goal

pub returns : goal.returns
returns c = status_end_falls
