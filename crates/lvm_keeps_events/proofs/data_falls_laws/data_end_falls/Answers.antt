use Rattle.lvm_keeps_events.proofs.EndFallsLemmas.DataFalls.{data_end_falls}
use Rattle.lvm_keeps_events.proofs.data_falls_laws.data_end_falls.Goals as goal

pub returns : goal.returns
returns c = data_end_falls
