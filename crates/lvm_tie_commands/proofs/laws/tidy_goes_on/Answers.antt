use Rattle.lvm_tie_commands.proofs.CommandsLemmas.Tidying.{tidy_goes_on}
use Rattle.lvm_tie_commands.proofs.laws.tidy_goes_on.Goals as goal

pub returns : goal.returns
returns c = tidy_goes_on
