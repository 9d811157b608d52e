use Rattle.lvm_tie.proofs.NearLemmas.{near_ties as its}
use Rattle.lvm_tie.proofs.reviews_laws.near_ties.Goals as goal

pub returns : goal.returns
returns c = its
