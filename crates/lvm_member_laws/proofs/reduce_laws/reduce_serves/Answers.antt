use Rattle.lvm_member_laws.proofs.ReducingLemmas.Serving.{reduce_serves}
use Rattle.lvm_member_laws.proofs.reduce_laws.reduce_serves.Goals as goal

pub returns : goal.returns
returns c = reduce_serves
