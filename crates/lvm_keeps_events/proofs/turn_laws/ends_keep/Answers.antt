use Rattle.lvm_keeps_events.proofs.TurnKeepsLemmas.{ends_keep}
use Rattle.lvm_keeps_events.proofs.turn_laws.ends_keep.Goals as goal

pub returns : goal.returns
returns c = ends_keep
