use Rattle.lvm_session.proofs.WorkedLemmas.Worked.{commit_lowers_work}
use Rattle.lvm_session.proofs.laws.commit_lowers_work.Goals as goal

pub returns : goal.returns
returns c = commit_lowers_work
