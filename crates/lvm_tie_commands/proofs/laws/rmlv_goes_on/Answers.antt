use Rattle.lvm_tie_commands.proofs.CommandsLemmas.Removing.{rmlv_goes_on}
use Rattle.lvm_tie_commands.proofs.laws.rmlv_goes_on.Goals as goal

pub returns : goal.returns
returns c = rmlv_goes_on
