use Rattle.lvm_keeps_events.proofs.DataEndsLemmas.{data_end_keeps}
use Rattle.lvm_keeps_events.proofs.data_laws.data_end_keeps.Goals as goal

pub returns : goal.returns
returns c = data_end_keeps
