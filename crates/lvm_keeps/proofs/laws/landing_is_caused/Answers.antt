use Rattle.lvm_keeps.proofs.KeepsLemmas.Landing.{landing_is_caused}
use Rattle.lvm_keeps.proofs.laws.landing_is_caused.Goals as goal

pub returns : goal.returns
returns c = landing_is_caused
