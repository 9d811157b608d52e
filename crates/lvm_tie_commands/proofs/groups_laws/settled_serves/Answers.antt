use Rattle.lvm_tie_commands.proofs.SettledLemmas.Serving.{settled_serves}
use Rattle.lvm_tie_commands.proofs.groups_laws.settled_serves.Goals as goal

pub returns : goal.returns
returns c = settled_serves
