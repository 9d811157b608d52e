use Rattle.lvm_tie_commands.proofs.ChangingLemmas.Finding.{change_finds_two}
use Rattle.lvm_tie_commands.proofs.change_laws.change_finds_two.Goals as goal

pub returns : goal.returns
returns c = change_finds_two
