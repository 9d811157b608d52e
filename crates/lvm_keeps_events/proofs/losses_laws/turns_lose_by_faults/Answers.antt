use Rattle.lvm_keeps_events.proofs.LosingLemmas.Losing.{turn_loses}
use Rattle.lvm_keeps_events.proofs.losses_laws.turns_lose_by_faults.Goals as goal

pub returns : goal.returns
returns c = turn_loses
