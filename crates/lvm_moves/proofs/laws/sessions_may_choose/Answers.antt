use Rattle.lvm_moves.proofs.ReadyLemmas.Ready.{sessions_may_choose}
use Rattle.lvm_moves.proofs.laws.sessions_may_choose.Goals as goal

pub returns : goal.returns
returns c = sessions_may_choose
