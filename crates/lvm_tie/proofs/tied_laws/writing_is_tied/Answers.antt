use Rattle.lvm_tie.proofs.WorkedLemmas.Writing.{writing_is_tied as its}
use Rattle.lvm_tie.proofs.tied_laws.writing_is_tied.Goals as goal

pub returns : goal.returns
returns c = its
