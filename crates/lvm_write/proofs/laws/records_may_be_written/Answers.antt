use Rattle.lvm_write.proofs.ShowsLemmas.{descriptor_may_be_written, status_may_be_written}
use Rattle.lvm_write.proofs.laws.records_may_be_written.Goals as goal

pub returns : goal.returns
returns c = record { descriptors = descriptor_may_be_written; statuses = status_may_be_written }
