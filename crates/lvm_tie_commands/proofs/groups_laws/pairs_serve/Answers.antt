use Rattle.lvm_tie_commands.proofs.ExamplesLemmas.Examples.{pairs_serve}
use Rattle.lvm_tie_commands.proofs.groups_laws.pairs_serve.Goals as goal

pub returns : goal.returns
returns c = pairs_serve
