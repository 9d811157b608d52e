use Rattle.lvm_volumes.proofs.LawsOfVolumesLemmas.{removal_is_shown}
use Rattle.lvm_volumes.proofs.laws.removal_is_shown.Goals as goal

pub returns : goal.returns
returns c = removal_is_shown
