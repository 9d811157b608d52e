use Rattle.lvm_tie_commands.proofs.ComingLemmas.Coming.{varied_is_made_even}
use Rattle.lvm_tie_commands.proofs.groups_laws.varied_is_made_even.Goals as goal

pub returns : goal.returns
returns c = varied_is_made_even
