use Rattle.lvm_invariant.proofs.CauseLawsLemmas.WholeCauses.{cut_caused}
use Rattle.lvm_invariant.proofs.causes.cut_is_caused.Goals as goal

pub returns : goal.returns
returns c = cut_caused
