use Rattle.lvm_tie.proofs.StepsLemmas.ReadEnds.{copy_read_end_ties as its}
use Rattle.lvm_tie.proofs.steps_laws.copy_read_end_ties.Goals as goal

pub returns : goal.returns
returns c = its
