use Rattle.lvm_tie.proofs.StepsLemmas.Quits.{copy_quit_ties as its}
use Rattle.lvm_tie.proofs.steps_laws.copy_quit_ties.Goals as goal

pub returns : goal.returns
returns c = its
