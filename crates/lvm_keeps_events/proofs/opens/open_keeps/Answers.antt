use Rattle.lvm_keeps_events.proofs.OpeningLemmas.Opening.{open_keeps}
use Rattle.lvm_keeps_events.proofs.opens.open_keeps.Goals as goal

pub returns : goal.returns
returns c = open_keeps
