use Rattle.lvm_commit.proofs.LawsOfVolumesLemmas.Volumes.{next_is_later}
use Rattle.lvm_commit.proofs.laws.next_is_later.Goals as goal

pub returns : goal.returns
returns c = next_is_later
