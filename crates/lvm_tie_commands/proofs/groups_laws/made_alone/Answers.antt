use Rattle.lvm_tie_commands.proofs.ComingLemmas.Alone.{made_alone}
use Rattle.lvm_tie_commands.proofs.groups_laws.made_alone.Goals as goal

pub returns : goal.returns
returns c = made_alone
