use Rattle.lvm_keeps.proofs.KeepsLemmas.Orders.{order_keeps}
use Rattle.lvm_keeps.proofs.laws.order_keeps.Goals as goal

pub returns : goal.returns
returns c = order_keeps
