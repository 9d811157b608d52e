use Rattle.lvm_kept.proofs.CommittedLemmas.Alike.{one_is_only, one_shown_is_one}
use Rattle.lvm_kept.proofs.laws.one_group_is_only.Goals as goal

pub returns : goal.returns
returns c = record { only = one_is_only; one = one_shown_is_one }
