use Rattle.lvm_tie.proofs.SparesLemmas.{calls_spare_descriptors, turn_spares_descriptors}
use Rattle.lvm_tie.proofs.spares_laws.descriptors_are_spared.Goals as goal

pub returns : goal.returns
returns c = record { turn = turn_spares_descriptors; calls = calls_spare_descriptors }
