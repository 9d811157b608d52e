use Rattle.lvm_driver.proofs.EndedLemmas.{drained_has_ended}
use Rattle.lvm_driver.proofs.laws.drained_copies_have_ended.Goals as goal

pub returns : goal.returns
returns c = drained_has_ended
