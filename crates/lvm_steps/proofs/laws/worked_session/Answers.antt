use Rattle.lvm_steps.proofs.WorkedSessionLemmas.{worked_session}
use Rattle.lvm_steps.proofs.laws.worked_session.Goals as goal

pub returns : goal.returns
returns c = worked_session
