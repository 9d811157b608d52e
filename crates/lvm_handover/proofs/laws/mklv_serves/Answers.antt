use Rattle.lvm_handover.proofs.ServingLemmas.Volumes.{mklv_serves}
use Rattle.lvm_handover.proofs.laws.mklv_serves.Goals as goal

pub returns : goal.returns
returns c = mklv_serves
