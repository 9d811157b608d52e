use Rattle.lvm_keeps_events.proofs.EndFallsLemmas.GroupFalls.{copy_write_end_falls}
use Rattle.lvm_keeps_events.proofs.data_falls_laws.copy_write_end_falls.Goals as goal

pub returns : goal.returns
returns c = copy_write_end_falls
