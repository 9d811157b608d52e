use Rattle.lvm_tie_commands.proofs.BeginningLemmas.{made_stands}
use Rattle.lvm_tie_commands.proofs.laws.made_stands.Goals as goal

pub returns : goal.returns
returns c = made_stands
