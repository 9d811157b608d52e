use Rattle.lvm_commit.proofs.LawsOfVolumesLemmas.Volumes.{named_is_found, unnamed_is_not_found}
use Rattle.lvm_commit.proofs.laws.volume_is_found.Goals as goal

pub returns : goal.returns
returns c = record { all = named_is_found; none = unnamed_is_not_found }
