use Rattle.lvm_member_laws.proofs.ReducingLemmas.Going.{reduce_goes_on}
use Rattle.lvm_member_laws.proofs.reduce_laws.reduce_goes_on.Goals as goal

pub returns : goal.returns
returns c = reduce_goes_on
