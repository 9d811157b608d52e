use Rattle.lvm_keeps_events.proofs.LosingLemmas.Votes.{votes_go}
use Rattle.lvm_keeps_events.proofs.losses_laws.votes_go_by_faults.Goals as goal

pub returns : goal.returns
returns c = votes_go
