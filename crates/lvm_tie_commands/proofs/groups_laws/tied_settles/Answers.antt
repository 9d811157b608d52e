use Rattle.lvm_tie_commands.proofs.SettledLemmas.Leaving.{tied_settles}
use Rattle.lvm_tie_commands.proofs.groups_laws.tied_settles.Goals as goal

pub returns : goal.returns
returns c = tied_settles
