use Rattle.lvm_keeps_events.proofs.EventsLemmas.{events_keep}
use Rattle.lvm_keeps_events.proofs.laws.events_keep.Goals as goal

pub returns : goal.returns
returns c = events_keep
