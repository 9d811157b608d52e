use Rattle.lvm_commit.proofs.LawsOfVolumesLemmas.Volumes.{volume_begins_in_session, volume_splits_in_session, volume_is_made_in_session, volume_is_gone_in_session}
use Rattle.lvm_commit.proofs.laws.entries_of_volumes_go_on.Goals as goal

pub returns : goal.returns
returns c = record { begins = volume_begins_in_session; splits = volume_splits_in_session; made = volume_is_made_in_session; gone = volume_is_gone_in_session }
