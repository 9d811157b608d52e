use Rattle.lvm_driver.proofs.WorkedMoves.{mirrors_may_commit, mirrors_may_move}
use Rattle.lvm_driver.proofs.laws.mirrors_may_move.Goals as goal

pub returns : goal.returns
returns c = record { begins = mirrors_may_move; commits = mirrors_may_commit }
