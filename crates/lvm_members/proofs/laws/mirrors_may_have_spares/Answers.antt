use Rattle.lvm_members.proofs.WorkedLemmas.{mirrors_may_have_spares}
use Rattle.lvm_members.proofs.laws.mirrors_may_have_spares.Goals as goal

pub returns : goal.returns
returns c = mirrors_may_have_spares
