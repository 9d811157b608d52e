use Rattle.lvm_tie.proofs.LandingsLemmas.Causes.{beginning_has_causes as its}
use Rattle.lvm_tie.proofs.causes_laws.beginning_has_causes.Goals as goal

pub returns : goal.returns
returns c = its
