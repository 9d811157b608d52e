use Rattle.lvm_recovery.proofs.JoiningLemmas.{copies_go_on}
use Rattle.lvm_recovery.proofs.laws.copies_go_on.Goals as goal

pub returns : goal.returns
returns c = copies_go_on
