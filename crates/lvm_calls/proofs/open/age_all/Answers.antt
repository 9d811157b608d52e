use Rattle.lvm_calls.proofs.Tables.{aged_more}
use Rattle.lvm_calls.proofs.open.age_all.Goals as goal

pub loop-open-preserved : goal.loop-open-preserved
loop-open-preserved c = aged_more c.args.requests.now c.loop-open.requests c.loop-open.open-index c.open-item.result c.loop-open-test.true c.loop-open.invariant
