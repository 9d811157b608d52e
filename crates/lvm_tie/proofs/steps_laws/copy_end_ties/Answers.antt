use Rattle.lvm_tie.proofs.StepsLemmas.CopyEnds.{copy_end_ties as its}
use Rattle.lvm_tie.proofs.steps_laws.copy_end_ties.Goals as goal

pub returns : goal.returns
returns c = its
