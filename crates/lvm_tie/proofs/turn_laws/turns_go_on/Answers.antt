use Rattle.lvm_tie.proofs.GoingOnLemmas.Turning.{turn_goes_on as its}
use Rattle.lvm_tie.proofs.turn_laws.turns_go_on.Goals as goal

pub returns : goal.returns
returns c = its
