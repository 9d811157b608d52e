use Rattle.lvm_due.proofs.WorkedLemmas.{narrow}
use Rattle.lvm_due.proofs.laws.dues_are_narrow.Goals as goal

pub returns : goal.returns
returns c = narrow
