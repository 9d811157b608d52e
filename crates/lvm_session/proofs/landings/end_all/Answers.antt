use Rattle.lvm_session.proofs.HandsLemmas.{gives_more}
use Rattle.lvm_session.proofs.landings.end_all.Goals as goal

pub loop-open-preserved : goal.loop-open-preserved
loop-open-preserved c =
    gives_more c.args.how c.args.pool.now c.args.requests.now c.loop-open.open-index c.loop-open.pool c.loop-open.requests c.open-item.result c.loop-open-test.true c.loop-open.invariant
    c.end_open-hand.result c.give_back.new.pool c.end_open-hand.new.open c.end_open-hand.ensures.hand c.give_back.ensures c.end_open-hand.ensures.open
