use Rattle.lvm_keeps_events.proofs.EndsLemmas.CopyReadEnd.{copy_read_end_keeps}
use Rattle.lvm_keeps_events.proofs.ends_laws.copy_read_end_keeps.Goals as goal

pub returns : goal.returns
returns c = copy_read_end_keeps
