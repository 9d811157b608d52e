use Rattle.lvm_keeps_events.proofs.KeepsLemmas.StatusStart.{status_start_keeps}
use Rattle.lvm_keeps_events.proofs.starts_laws.status_start_keeps.Goals as goal

pub returns : goal.returns
returns c = status_start_keeps
