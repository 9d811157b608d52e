use Rattle.lvm_change_votes.proofs.ExamplesLemmas.{fourth_joins, groups_may_reduce}
use Rattle.lvm_change_votes.proofs.laws.members_may_change.Goals as goal

pub returns : goal.returns
returns c = record { grow = fourth_joins; reduce = groups_may_reduce }
