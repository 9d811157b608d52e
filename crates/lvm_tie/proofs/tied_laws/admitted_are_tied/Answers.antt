use Rattle.lvm_tie.proofs.WorkedLemmas.Admitted.{admitted_are_tied as its}
use Rattle.lvm_tie.proofs.tied_laws.admitted_are_tied.Goals as goal

pub returns : goal.returns
returns c = its
