use Rattle.lvm_tie.proofs.WorkedLemmas.Waiting.{waiting_are_tied as its}
use Rattle.lvm_tie.proofs.tied_laws.waiting_are_tied.Goals as goal

pub returns : goal.returns
returns c = its
