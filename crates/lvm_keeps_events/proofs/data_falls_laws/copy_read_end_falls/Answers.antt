use Rattle.lvm_keeps_events.proofs.EndFallsLemmas.CopyFalls.{copy_read_end_falls}
use Rattle.lvm_keeps_events.proofs.data_falls_laws.copy_read_end_falls.Goals as goal

pub returns : goal.returns
returns c = copy_read_end_falls
