use Rattle.lvm_settled.proofs.SettledLemmas.{settled_is_good}
use Rattle.lvm_settled.proofs.laws.settled_is_good.Goals as goal

pub returns : goal.returns
returns c = settled_is_good
