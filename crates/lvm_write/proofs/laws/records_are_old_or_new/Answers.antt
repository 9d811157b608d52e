use Rattle.lvm_write.proofs.ShowsLemmas.{descriptors_old_or_new, statuses_old_or_new}
use Rattle.lvm_write.proofs.laws.records_are_old_or_new.Goals as goal

pub returns : goal.returns
returns c = record { descriptors = descriptors_old_or_new; statuses = statuses_old_or_new }
