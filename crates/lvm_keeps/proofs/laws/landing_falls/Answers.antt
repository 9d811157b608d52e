use Rattle.lvm_keeps.proofs.FallsLemmas.Landing.{landing_falls}
use Rattle.lvm_keeps.proofs.laws.landing_falls.Goals as goal

pub returns : goal.returns
returns c = landing_falls
