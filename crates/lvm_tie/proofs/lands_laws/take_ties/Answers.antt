use Rattle.lvm_tie.proofs.LandsLemmas.TakeTies.{take_ties as its}
use Rattle.lvm_tie.proofs.lands_laws.take_ties.Goals as goal

pub returns : goal.returns
returns c = its
