use Rattle.lvm_keeps_events.proofs.FallsLemmas.DataStart.{data_start_falls}
use Rattle.lvm_keeps_events.proofs.starts_laws.data_start_falls.Goals as goal

pub returns : goal.returns
returns c = data_start_falls
