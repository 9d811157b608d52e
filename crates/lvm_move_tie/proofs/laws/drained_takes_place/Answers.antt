use Rattle.lvm_move_tie.proofs.TakingLemmas.{drained_takes_place as its}
use Rattle.lvm_move_tie.proofs.laws.drained_takes_place.Goals as goal

pub returns : goal.returns
returns c = its
