use Rattle.lvm_tie.proofs.LandingsLemmas.Calls.{calls_keep_causes as its}
use Rattle.lvm_tie.proofs.causes_laws.calls_keep_causes.Goals as goal

pub returns : goal.returns
returns c = its
