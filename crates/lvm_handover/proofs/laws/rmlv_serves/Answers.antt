use Rattle.lvm_handover.proofs.ServingLemmas.Volumes.{rmlv_serves}
use Rattle.lvm_handover.proofs.laws.rmlv_serves.Goals as goal

pub returns : goal.returns
returns c = rmlv_serves
