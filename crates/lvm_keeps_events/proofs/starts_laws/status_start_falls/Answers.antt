use Rattle.lvm_keeps_events.proofs.FallsLemmas.StatusStart.{status_start_falls}
use Rattle.lvm_keeps_events.proofs.starts_laws.status_start_falls.Goals as goal

pub returns : goal.returns
returns c = status_start_falls
