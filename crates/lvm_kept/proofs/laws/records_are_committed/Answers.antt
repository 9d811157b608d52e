use Rattle.lvm_kept.proofs.CommittedLemmas.Finding.{next_is_written, next_is_committed}
use Rattle.lvm_kept.proofs.laws.records_are_committed.Goals as goal

pub returns : goal.returns
returns g c = record { written = next_is_written _; committed = next_is_committed _ }
