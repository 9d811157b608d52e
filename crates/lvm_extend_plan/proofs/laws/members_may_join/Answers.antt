use Rattle.lvm_extend_plan.proofs.ExamplesLemmas.{groups_may_grow}
use Rattle.lvm_extend_plan.proofs.laws.members_may_join.Goals as goal

pub returns : goal.returns
returns c = groups_may_grow
