use Rattle.lvm_commit.proofs.LawsOfVolumesLemmas.Others.{descriptor_leaves_others, rest_leaves_others, only_group_stays, only_group_stays_by_data, only_group_stays_on, one_found_is_only_since}
use Rattle.lvm_commit.proofs.laws.only_group_stays.Goals as goal

pub returns : goal.returns
returns c = record { descriptor = descriptor_leaves_others; rest = rest_leaves_others; only = only_group_stays; blocks = only_group_stays_by_data; on = only_group_stays_on; since = one_found_is_only_since }
