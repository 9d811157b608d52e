use Rattle.lvm_tie.proofs.WorkedLemmas.Updating.{updating_is_tied as its}
use Rattle.lvm_tie.proofs.tied_laws.updating_is_tied.Goals as goal

pub returns : goal.returns
returns c = its
