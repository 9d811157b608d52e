use Rattle.lvm_driver.proofs.BeginningsLemmas.{whole_groups_begin}
use Rattle.lvm_driver.proofs.laws.whole_groups_begin.Goals as goal

pub returns : goal.returns
returns c = whole_groups_begin
