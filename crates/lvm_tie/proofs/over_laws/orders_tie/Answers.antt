use Rattle.lvm_tie.proofs.OverLemmas.Orders.{order_goes_on, order_ties}
use Rattle.lvm_tie.proofs.over_laws.orders_tie.Goals as goal

pub returns : goal.returns
returns c = record { goes_on = order_goes_on; ties = order_ties }
