use Rattle.lvm_session.proofs.WorkedLemmas.Worked.{unsettled_is_fresh}
use Rattle.lvm_session.proofs.laws.unsettled_is_fresh.Goals as goal

pub returns : goal.returns
returns c = unsettled_is_fresh
