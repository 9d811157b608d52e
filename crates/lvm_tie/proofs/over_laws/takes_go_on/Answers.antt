use Rattle.lvm_tie.proofs.OverLemmas.Taking.{take_goes_on as its}
use Rattle.lvm_tie.proofs.over_laws.takes_go_on.Goals as goal

pub returns : goal.returns
returns c = its
