use Rattle.lvm_status.proofs.RunsLemmas.Sessions.{settled_stays}
use Rattle.lvm_status.proofs.laws.staleness_stays.Goals as goal

pub returns : goal.returns
returns c = settled_stays
