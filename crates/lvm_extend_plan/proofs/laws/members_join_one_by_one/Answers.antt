use Rattle.lvm_extend_plan.proofs.OneByOneLemmas.{join_one_by_one}
use Rattle.lvm_extend_plan.proofs.laws.members_join_one_by_one.Goals as goal

pub returns : goal.returns
returns c = join_one_by_one
