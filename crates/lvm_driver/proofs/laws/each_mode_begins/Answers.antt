use Rattle.lvm_driver.proofs.BeginningsLemmas.{each_mode_begins}
use Rattle.lvm_driver.proofs.laws.each_mode_begins.Goals as goal

pub returns : goal.returns
returns c = each_mode_begins
