use Rattle.lvm_tie_commands.proofs.ChangingLemmas.Serving.{make_big_serves}
use Rattle.lvm_tie_commands.proofs.change_laws.make_big_serves.Goals as goal

pub returns : goal.returns
returns c = make_big_serves
