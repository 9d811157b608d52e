use Rattle.lvm_tie.proofs.LandingsLemmas.Causes.{turn_keeps_causes as its}
use Rattle.lvm_tie.proofs.causes_laws.turn_keeps_causes.Goals as goal

pub returns : goal.returns
returns c = its
