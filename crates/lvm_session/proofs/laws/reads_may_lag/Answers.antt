use Rattle.lvm_session.proofs.WorkedLemmas.Worked.{reads_may_lag}
use Rattle.lvm_session.proofs.laws.reads_may_lag.Goals as goal

pub returns : goal.returns
returns c = reads_may_lag
