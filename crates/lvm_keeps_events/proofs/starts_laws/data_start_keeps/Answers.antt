use Rattle.lvm_keeps_events.proofs.KeepsLemmas.DataStart.{data_start_keeps}
use Rattle.lvm_keeps_events.proofs.starts_laws.data_start_keeps.Goals as goal

pub returns : goal.returns
returns c = data_start_keeps
