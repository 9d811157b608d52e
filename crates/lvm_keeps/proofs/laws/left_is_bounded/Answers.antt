use Rattle.lvm_keeps.proofs.FallsLemmas.Bounding.{left_is_bounded}
use Rattle.lvm_keeps.proofs.laws.left_is_bounded.Goals as goal

pub returns : goal.returns
returns c = left_is_bounded
