use Rattle.lvm_reduce.proofs.ExamplesLemmas.{members_may_leave as lemma_of}
use Rattle.lvm_reduce.proofs.laws.members_may_leave.Goals as goal

pub returns : goal.returns
returns c = lemma_of
