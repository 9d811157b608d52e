use Rattle.lvm_steps.proofs.WorkedMakingLemmas.{worked_making}
use Rattle.lvm_steps.proofs.laws.worked_making.Goals as goal

pub returns : goal.returns
returns c = worked_making
