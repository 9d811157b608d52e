use Rattle.std.proofs.Common.{◌-◌, length}
use Rattle.lvm_hold.proofs.WalkLemmas.{IsOnTheWay}
use Rattle.lvm_hold.proofs.chains.first_in_chain.Given as goal

abbrev pub invariant-loop-next : goal.invariant-loop-next
invariant-loop-next l = IsOnTheWay l.rows l.this l.from l.next

abbrev pub decreases-loop-next : goal.decreases-loop-next
decreases-loop-next l = length l.rows - l.from
