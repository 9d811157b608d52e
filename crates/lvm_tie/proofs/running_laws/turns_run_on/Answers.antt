use Rattle.lvm_tie.proofs.LawsLemmas.Turning.{turn_runs_on as its}
use Rattle.lvm_tie.proofs.running_laws.turns_run_on.Goals as goal

pub returns : goal.returns
returns c = its
