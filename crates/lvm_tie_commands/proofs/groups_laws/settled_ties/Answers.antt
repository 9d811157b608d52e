use Rattle.lvm_tie_commands.proofs.SettledLemmas.Serving.{settled_ties}
use Rattle.lvm_tie_commands.proofs.groups_laws.settled_ties.Goals as goal

pub returns : goal.returns
returns c = settled_ties
