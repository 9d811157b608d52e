use Rattle.lvm_tie_commands.proofs.ServingLemmas.More.{mklvcopy_serves}
use Rattle.lvm_tie_commands.proofs.copies_laws.mklvcopy_serves.Goals as goal

pub returns : goal.returns
returns c = mklvcopy_serves
