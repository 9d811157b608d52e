use Rattle.lvm_keeps_events.proofs.SubmitKeepsLemmas.{submit_keeps}
use Rattle.lvm_keeps_events.proofs.calls_laws.submit_keeps.Goals as goal

pub returns : goal.returns
returns c = submit_keeps
