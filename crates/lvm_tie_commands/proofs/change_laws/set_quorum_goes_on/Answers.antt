use Rattle.lvm_tie_commands.proofs.ChangingLemmas.Going.{set_quorum_goes_on}
use Rattle.lvm_tie_commands.proofs.change_laws.set_quorum_goes_on.Goals as goal

pub returns : goal.returns
returns c = set_quorum_goes_on
