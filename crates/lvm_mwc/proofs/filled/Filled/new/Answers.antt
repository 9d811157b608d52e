use Rattle.lvm_mwc.proofs.LaidLemmas.{one_filler_more}
use Rattle.lvm_mwc.proofs.filled.Filled.new.Goals as goal

pub loop-group-preserved : goal.loop-group-preserved
loop-group-preserved c = one_filler_more c.loop-group.keys c.loop-group.group c.insert.new.self.entries c.loop-group.invariant c.in_ok-insert.ensures.entries
