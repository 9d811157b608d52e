use Rattle.lvm_keeps.proofs.FallsLemmas.Pin.{pin_falls}
use Rattle.lvm_keeps.proofs.laws.pin_falls.Goals as goal

pub returns : goal.returns
returns c = pin_falls
