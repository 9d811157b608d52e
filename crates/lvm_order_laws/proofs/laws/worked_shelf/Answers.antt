use Rattle.lvm_order_laws.proofs.AloneLemmas.{fresh_is_unharmed}
use Rattle.lvm_order_laws.proofs.laws.worked_shelf.Goals as goal

pub returns : goal.returns
returns c = fresh_is_unharmed
