use Rattle.lvm_keeps_events.proofs.MissingLemmas.{missed_writes_wait}
use Rattle.lvm_keeps_events.proofs.laws.missed_writes_wait.Goals as goal

pub returns : goal.returns
returns c = missed_writes_wait
