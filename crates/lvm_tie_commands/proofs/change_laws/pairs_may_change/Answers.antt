use Rattle.lvm_tie_commands.proofs.ExamplesLemmas.Changing.{pairs_may_change}
use Rattle.lvm_tie_commands.proofs.change_laws.pairs_may_change.Goals as goal

pub returns : goal.returns
returns c = pairs_may_change
