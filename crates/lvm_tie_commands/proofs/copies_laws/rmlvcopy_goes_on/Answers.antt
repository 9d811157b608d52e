use Rattle.lvm_tie_commands.proofs.CopiesLemmas.Taking.{rmlvcopy_goes_on}
use Rattle.lvm_tie_commands.proofs.copies_laws.rmlvcopy_goes_on.Goals as goal

pub returns : goal.returns
returns c = rmlvcopy_goes_on
