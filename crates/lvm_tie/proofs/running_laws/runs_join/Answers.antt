use Rattle.lvm_tie.proofs.LawsLemmas.Running.{runs_join as its}
use Rattle.lvm_tie.proofs.running_laws.runs_join.Goals as goal

pub returns : goal.returns
returns c = its
