use Rattle.lvm_invariant.proofs.CauseLawsLemmas.WholeCauses.{votes_lost, off_caused}
use Rattle.lvm_invariant.proofs.causes.going_off_is_caused.Goals as goal

pub returns : goal.returns
returns c = record { votes = votes_lost; landings = off_caused }
