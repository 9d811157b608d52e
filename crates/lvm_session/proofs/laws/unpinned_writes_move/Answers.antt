use Rattle.lvm_session.proofs.WorkedLemmas.Worked.{unpinned_writes_move}
use Rattle.lvm_session.proofs.laws.unpinned_writes_move.Goals as goal

pub returns : goal.returns
returns c = unpinned_writes_move
