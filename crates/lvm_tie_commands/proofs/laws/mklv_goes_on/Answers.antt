use Rattle.lvm_tie_commands.proofs.CommandsLemmas.Making.{mklv_goes_on}
use Rattle.lvm_tie_commands.proofs.laws.mklv_goes_on.Goals as goal

pub returns : goal.returns
returns c = mklv_goes_on
