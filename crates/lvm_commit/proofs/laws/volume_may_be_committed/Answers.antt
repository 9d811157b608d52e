use Rattle.lvm_commit.proofs.LawsOfVolumesLemmas.Volumes.{one_serves, committed_may_commit, zeros_are_found}
use Rattle.lvm_commit.proofs.laws.volume_may_be_committed.Goals as goal

pub returns : goal.returns
returns c = record { one = one_serves; descriptor = committed_may_commit; zeros = zeros_are_found }
