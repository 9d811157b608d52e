use Rattle.lvm_keeps_events.proofs.EndsLemmas.Counts.{counts_keep}
use Rattle.lvm_keeps_events.proofs.ends_laws.counts_keep.Goals as goal

pub returns : goal.returns
returns c = counts_keep
