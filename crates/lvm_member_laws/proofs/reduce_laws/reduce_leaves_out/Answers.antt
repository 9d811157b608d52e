use Rattle.lvm_member_laws.proofs.ReducingLemmas.Finding.{reduce_leaves_out}
use Rattle.lvm_member_laws.proofs.reduce_laws.reduce_leaves_out.Goals as goal

pub returns : goal.returns
returns c = reduce_leaves_out
