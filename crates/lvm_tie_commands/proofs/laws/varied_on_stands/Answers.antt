use Rattle.lvm_tie_commands.proofs.BeginningLemmas.{varied_on_stands}
use Rattle.lvm_tie_commands.proofs.laws.varied_on_stands.Goals as goal

pub returns : goal.returns
returns c = varied_on_stands
