use Rattle.lvm_handover.proofs.SettlingLemmas.Resting.{drained_rests}
use Rattle.lvm_handover.proofs.laws.drained_rests.Goals as goal

pub returns : goal.returns
returns c = drained_rests
