use Rattle.lvm_write.proofs.ShownLemmas.Following.{targets_spare_newest, others_spare_newest}
use Rattle.lvm_write.proofs.begin_laws.homes_spare_newest.Goals as goal

pub returns : goal.returns
returns c = record { targets = targets_spare_newest; others = others_spare_newest }
