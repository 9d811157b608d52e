use Rattle.lvm_order_laws.proofs.AloneLemmas.{nothing_by_itself, stays_unharmed}
use Rattle.lvm_order_laws.proofs.laws.nothing_happens_by_itself.Goals as goal

pub returns : goal.returns
returns c = record { well = nothing_by_itself; unharmed = stays_unharmed }
