use Rattle.lvm_keeps_events.proofs.EndsLemmas.CopyReadFail.{copy_read_fail_keeps}
use Rattle.lvm_keeps_events.proofs.ends_laws.copy_read_fail_keeps.Goals as goal

pub returns : goal.returns
returns c = copy_read_fail_keeps
