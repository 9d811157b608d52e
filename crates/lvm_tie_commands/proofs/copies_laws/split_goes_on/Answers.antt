use Rattle.lvm_tie_commands.proofs.CopiesLemmas.Splitting.{split_goes_on}
use Rattle.lvm_tie_commands.proofs.copies_laws.split_goes_on.Goals as goal

pub returns : goal.returns
returns c = split_goes_on
