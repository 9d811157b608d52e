use Rattle.lvm_tie_commands.proofs.ComingLemmas.Coming.{made_serves}
use Rattle.lvm_tie_commands.proofs.groups_laws.made_serves.Goals as goal

pub returns : goal.returns
returns c = made_serves
