use Rattle.lvm_tie.proofs.SparesLemmas.{over_leaves_descriptors, tied_leaves_descriptors}
use Rattle.lvm_tie.proofs.spares_laws.transfers_leave_descriptors.Goals as goal

pub returns : goal.returns
returns c = record { tied = tied_leaves_descriptors; over = over_leaves_descriptors }
