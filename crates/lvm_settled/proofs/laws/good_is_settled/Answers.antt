use Rattle.lvm_settled.proofs.SettledLemmas.{good_is_settled}
use Rattle.lvm_settled.proofs.laws.good_is_settled.Goals as goal

pub returns : goal.returns
returns c = good_is_settled
