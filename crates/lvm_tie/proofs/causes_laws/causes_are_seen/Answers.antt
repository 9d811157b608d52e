use Rattle.lvm_tie.proofs.CausesLemmas.{causes_are_seen as its}
use Rattle.lvm_tie.proofs.causes_laws.causes_are_seen.Goals as goal

pub returns : goal.returns
returns c = its
