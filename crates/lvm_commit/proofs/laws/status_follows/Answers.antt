use Rattle.lvm_commit.proofs.LawsLemmas.Statuses.{status_follows, status_goes_on}
use Rattle.lvm_commit.proofs.LawsLemmas.Committed.{status_is_committed}
use Rattle.lvm_commit.proofs.laws.status_follows.Goals as goal

pub returns : goal.returns
returns c = record { keeps = status_follows; moments = status_goes_on; committed = status_is_committed }
