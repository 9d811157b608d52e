use Rattle.lvm_keeps.proofs.KeepsLemmas.Losing.{loss_is_caused}
use Rattle.lvm_keeps.proofs.laws.loss_is_caused.Goals as goal

pub returns : goal.returns
returns c = loss_is_caused
