use Rattle.lvm_keeps_events.proofs.LosingLemmas.Losing.{loses_both}
use Rattle.lvm_keeps_events.proofs.losses_laws.losses_join.Goals as goal

pub returns : goal.returns
returns c = loses_both
