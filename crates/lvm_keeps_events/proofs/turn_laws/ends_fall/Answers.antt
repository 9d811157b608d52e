use Rattle.lvm_keeps_events.proofs.TurnKeepsLemmas.{ends_fall}
use Rattle.lvm_keeps_events.proofs.turn_laws.ends_fall.Goals as goal

pub returns : goal.returns
returns c = ends_fall
