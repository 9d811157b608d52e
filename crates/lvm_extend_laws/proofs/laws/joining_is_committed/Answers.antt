use Rattle.lvm_extend_laws.proofs.JoiningLemmas.{joining_is_committed}
use Rattle.lvm_extend_laws.proofs.laws.joining_is_committed.Goals as goal

pub returns : goal.returns
returns c = joining_is_committed
