use Rattle.lvm_session.proofs.WorkedLemmas.Along.{writes_go_along}
use Rattle.lvm_session.proofs.laws.writes_go_along.Goals as goal

pub returns : goal.returns
returns c = writes_go_along
