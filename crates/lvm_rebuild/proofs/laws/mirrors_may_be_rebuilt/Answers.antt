use Rattle.lvm_rebuild.proofs.WorkedLemmas.{mirrors_may_be_rebuilt}
use Rattle.lvm_rebuild.proofs.laws.mirrors_may_be_rebuilt.Goals as goal

pub returns : goal.returns
returns c = mirrors_may_be_rebuilt
