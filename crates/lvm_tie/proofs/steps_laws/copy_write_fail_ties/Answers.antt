use Rattle.lvm_tie.proofs.StepsLemmas.Fails.{copy_write_fail_ties as its}
use Rattle.lvm_tie.proofs.steps_laws.copy_write_fail_ties.Goals as goal

pub returns : goal.returns
returns c = its
