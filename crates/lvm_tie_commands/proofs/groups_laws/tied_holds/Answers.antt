use Rattle.lvm_tie_commands.proofs.SettledLemmas.Leaving.{tied_holds}
use Rattle.lvm_tie_commands.proofs.groups_laws.tied_holds.Goals as goal

pub returns : goal.returns
returns c = tied_holds
