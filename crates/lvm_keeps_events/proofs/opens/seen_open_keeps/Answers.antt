use Rattle.lvm_keeps_events.proofs.OpeningLemmas.Opening.{seen_open_keeps}
use Rattle.lvm_keeps_events.proofs.opens.seen_open_keeps.Goals as goal

pub returns : goal.returns
returns c = seen_open_keeps
