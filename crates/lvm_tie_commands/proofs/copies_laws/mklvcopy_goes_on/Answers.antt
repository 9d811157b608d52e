use Rattle.lvm_tie_commands.proofs.CopiesLemmas.Adding.{mklvcopy_goes_on}
use Rattle.lvm_tie_commands.proofs.copies_laws.mklvcopy_goes_on.Goals as goal

pub returns : goal.returns
returns c = mklvcopy_goes_on
