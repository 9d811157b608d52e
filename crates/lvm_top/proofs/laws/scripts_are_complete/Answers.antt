use Rattle.lvm_top.proofs.RefusedLemmas.{scripts_complete}
use Rattle.lvm_top.proofs.laws.scripts_are_complete.Goals as goal

pub returns : goal.returns
returns c = scripts_complete
