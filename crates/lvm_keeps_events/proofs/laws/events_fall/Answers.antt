use Rattle.lvm_keeps_events.proofs.KeepsFallsLemmas.Falls.{events_fall}
use Rattle.lvm_keeps_events.proofs.laws.events_fall.Goals as goal

pub returns : goal.returns
returns c = events_fall
