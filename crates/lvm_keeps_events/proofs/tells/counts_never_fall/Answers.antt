use Rattle.lvm_keeps_events.proofs.CountsLemmas.{turn_counts}
use Rattle.lvm_keeps_events.proofs.tells.counts_never_fall.Goals as goal

pub returns : goal.returns
returns c = turn_counts
