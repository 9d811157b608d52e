use Rattle.lvm_invariant.proofs.FirstLemmas.{first_is_good, bringing_up_is_good}
use Rattle.lvm_invariant.proofs.laws.first_is_good.Goals as goal

pub returns : goal.returns
returns c = record { rest = first_is_good; brought_up = bringing_up_is_good }
