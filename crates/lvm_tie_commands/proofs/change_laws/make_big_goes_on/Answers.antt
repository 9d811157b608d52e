use Rattle.lvm_tie_commands.proofs.ChangingLemmas.Going.{make_big_goes_on}
use Rattle.lvm_tie_commands.proofs.change_laws.make_big_goes_on.Goals as goal

pub returns : goal.returns
returns c = make_big_goes_on
