use Rattle.lvm_tie_commands.proofs.ComingLemmas.Coming.{varied_on_serves}
use Rattle.lvm_tie_commands.proofs.groups_laws.varied_on_serves.Goals as goal

pub returns : goal.returns
returns c = varied_on_serves
