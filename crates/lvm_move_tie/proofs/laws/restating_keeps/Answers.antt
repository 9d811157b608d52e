use Rattle.lvm_move_tie.proofs.RestatingLemmas.{restating_keeps as its}
use Rattle.lvm_move_tie.proofs.laws.restating_keeps.Goals as goal

pub returns : goal.returns
returns c = its
