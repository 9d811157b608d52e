use Rattle.lvm_program.proofs.WorkedLemmas.{some_run_goes_well}
use Rattle.lvm_program.proofs.laws.worked_run.Goals as goal

pub returns : goal.returns
returns c = some_run_goes_well
