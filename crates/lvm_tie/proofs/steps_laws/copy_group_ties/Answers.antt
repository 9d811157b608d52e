use Rattle.lvm_tie.proofs.StepsLemmas.CopyEnds.{copy_group_ties as its}
use Rattle.lvm_tie.proofs.steps_laws.copy_group_ties.Goals as goal

pub returns : goal.returns
returns c = its
