use Rattle.lvm_commit.proofs.LawsLemmas.Found.{only_committed_is_found, committed_status_is_read}
use Rattle.lvm_commit.proofs.laws.committed_is_found.Goals as goal

pub returns : goal.returns
returns c = record { descriptor = only_committed_is_found; status = committed_status_is_read }
