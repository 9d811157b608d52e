use Rattle.lvm_even.proofs.CommandsLemmas.{cleaning_follows}
use Rattle.lvm_even.proofs.laws.cleaning_follows.Goals as goal

pub returns : goal.returns
returns c = cleaning_follows
