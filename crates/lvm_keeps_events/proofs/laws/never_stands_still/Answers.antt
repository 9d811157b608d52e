use Rattle.lvm_keeps_events.proofs.KeepsFallsLemmas.Standing.{never_stands_still}
use Rattle.lvm_keeps_events.proofs.laws.never_stands_still.Goals as goal

pub returns : goal.returns
returns c = never_stands_still
