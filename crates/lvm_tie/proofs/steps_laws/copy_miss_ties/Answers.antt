use Rattle.lvm_tie.proofs.StepsLemmas.Misses.{copy_miss_ties as its}
use Rattle.lvm_tie.proofs.steps_laws.copy_miss_ties.Goals as goal

pub returns : goal.returns
returns c = its
