use Rattle.lvm_tie.proofs.LawsLemmas.Calls.{calls_run_on as its}
use Rattle.lvm_tie.proofs.running_laws.calls_run_on.Goals as goal

pub returns : goal.returns
returns c = its
