use Rattle.lvm_tie.proofs.LandsLemmas.Landings.{land_ties as its}
use Rattle.lvm_tie.proofs.lands_laws.land_ties.Goals as goal

pub returns : goal.returns
returns c = its
