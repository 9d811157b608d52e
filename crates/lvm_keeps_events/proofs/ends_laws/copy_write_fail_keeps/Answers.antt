use Rattle.lvm_keeps_events.proofs.EndsLemmas.CopyWriteFail.{copy_write_fail_keeps}
use Rattle.lvm_keeps_events.proofs.ends_laws.copy_write_fail_keeps.Goals as goal

pub returns : goal.returns
returns c = copy_write_fail_keeps
