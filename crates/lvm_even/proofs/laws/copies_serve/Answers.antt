use Rattle.lvm_even.proofs.CommandsLemmas.{copies_serve}
use Rattle.lvm_even.proofs.laws.copies_serve.Goals as goal

pub returns : goal.returns
returns c = copies_serve
