use Rattle.lvm_moved.proofs.MovedLemmas.{moved_is_valid}
use Rattle.lvm_moved.proofs.laws.moved_is_valid.Goals as goal

pub returns : goal.returns
returns c = moved_is_valid
