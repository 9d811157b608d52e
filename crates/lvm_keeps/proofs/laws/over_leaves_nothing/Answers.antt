use Rattle.lvm_keeps.proofs.FallsLemmas.Over.{over_leaves_nothing}
use Rattle.lvm_keeps.proofs.laws.over_leaves_nothing.Goals as goal

pub returns : goal.returns
returns c = over_leaves_nothing
