use Rattle.lvm_tie_commands.proofs.ServingLemmas.Fewer.{rmlvcopy_serves}
use Rattle.lvm_tie_commands.proofs.copies_laws.rmlvcopy_serves.Goals as goal

pub returns : goal.returns
returns c = rmlvcopy_serves
