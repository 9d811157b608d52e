use Rattle.lvm_keeps.proofs.KeepsLemmas.Pin.{pin_keeps}
use Rattle.lvm_keeps.proofs.laws.pin_keeps.Goals as goal

pub returns : goal.returns
returns c = pin_keeps
