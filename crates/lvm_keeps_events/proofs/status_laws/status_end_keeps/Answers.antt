use Rattle.lvm_keeps_events.proofs.StatusEndsLemmas.StatusEnd.{status_end_keeps}
use Rattle.lvm_keeps_events.proofs.status_laws.status_end_keeps.Goals as goal

pub returns : goal.returns
returns c = status_end_keeps
