use Rattle.lvm_move_tie.proofs.WorkedLemmas.{places_may_be_taken as its}
use Rattle.lvm_move_tie.proofs.laws.places_may_be_taken.Goals as goal

pub returns : goal.returns
returns c = its
