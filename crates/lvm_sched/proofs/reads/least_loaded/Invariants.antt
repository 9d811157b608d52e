use Rattle.lvm_sched.proofs.ReadsLemmas.Orders.{BestSoFar}
use Rattle.lvm_sched.proofs.reads.least_loaded.Given as goal

abbrev pub invariant-loop-copy : goal.invariant-loop-copy
invariant-loop-copy l = BestSoFar l.usable l.loads l.copy-index l.best
