use Rattle.lvm_keeps_events.proofs.KeepsLemmas.Landing.{landing_keeps}
use Rattle.lvm_keeps_events.proofs.moves_laws.landing_keeps.Goals as goal

pub returns : goal.returns
returns c = landing_keeps
