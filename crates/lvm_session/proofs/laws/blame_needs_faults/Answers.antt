use Rattle.lvm_session.proofs.WorkedLemmas.Worked.{blame_needs_faults}
use Rattle.lvm_session.proofs.laws.blame_needs_faults.Goals as goal

pub returns : goal.returns
returns c = blame_needs_faults
