use Rattle.lvm_tie_commands.proofs.ServingLemmas.Splitting.{split_leaves_serving}
use Rattle.lvm_tie_commands.proofs.split_laws.split_leaves_serving.Goals as goal

pub returns : goal.returns
returns c = split_leaves_serving
