use Rattle.lvm_keeps_events.proofs.KeepsLemmas.CopyWrite.{copy_write_keeps}
use Rattle.lvm_keeps_events.proofs.starts_laws.copy_write_keeps.Goals as goal

pub returns : goal.returns
returns c = copy_write_keeps
