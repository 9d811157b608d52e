use Rattle.lvm_keeps_events.proofs.GroupEndsLemmas.{copy_write_end_keeps}
use Rattle.lvm_keeps_events.proofs.group_laws.copy_write_end_keeps.Goals as goal

pub returns : goal.returns
returns c = copy_write_end_keeps
