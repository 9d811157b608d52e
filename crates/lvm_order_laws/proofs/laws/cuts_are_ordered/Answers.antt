use Rattle.lvm_order_laws.proofs.AloneLemmas.{heeds_always, stays_alone}
use Rattle.lvm_order_laws.proofs.laws.cuts_are_ordered.Goals as goal

pub returns : goal.returns
returns c = record { step = stays_alone; always = heeds_always }
