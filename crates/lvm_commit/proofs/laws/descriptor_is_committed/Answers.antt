use Rattle.lvm_commit.proofs.LawsLemmas.Committed.{descriptor_is_committed}
use Rattle.lvm_commit.proofs.laws.descriptor_is_committed.Goals as goal

pub returns : goal.returns
returns c = descriptor_is_committed
