use Rattle.lvm_tie.proofs.CausesLemmas.{faults_are_there as its}
use Rattle.lvm_tie.proofs.causes_laws.faults_are_there.Goals as goal

pub returns : goal.returns
returns c = its
