use Rattle.lvm_tie_commands.proofs.ChangingLemmas.Serving.{set_quorum_serves}
use Rattle.lvm_tie_commands.proofs.change_laws.set_quorum_serves.Goals as goal

pub returns : goal.returns
returns c = set_quorum_serves
