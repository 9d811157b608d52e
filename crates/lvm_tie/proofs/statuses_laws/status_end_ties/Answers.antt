use Rattle.lvm_tie.proofs.StatusesLemmas.StatusTies.{status_end_ties as its}
use Rattle.lvm_tie.proofs.statuses_laws.status_end_ties.Goals as goal

pub returns : goal.returns
returns c = its
