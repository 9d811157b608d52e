use Rattle.std.proofs.Common.{arith}
use Rattle.lvm_quiesce.proofs.LawsLemmas.Ending.{cut_costs, none_yet, one_more}
use Rattle.lvm_quiesce.proofs.ends.quiesce.Goals as goal

pub loop-shelf-init : goal.loop-shelf-init
loop-shelf-init g c = none_yet c.args.patience.now.left (g.S.Shelf.device c.args.shelf.now) c.requires

pub loop-shelf-preserved : goal.loop-shelf-preserved
loop-shelf-preserved g c =
    let device = g.S.Shelf.device in
    let some = c.if-patience-eq0.false in
    one_more c.args.patience.now.left c.loop-shelf.patience.left c.end_one.new.patience.left (device c.args.shelf.now) (device c.loop-shelf.shelf) (device c.end_one.new.shelf) c.loop-shelf.invariant (omega (arith, some)) c.if-not-end_one.ensures

pub returns-then-not-end_one-clause-costs : goal.returns-then-not-end_one-clause-costs
returns-then-not-end_one-clause-costs g c =
    let device = g.S.Shelf.device in
    let some = c.if-patience-eq0.false in
    cut_costs c.args.patience.now.left c.loop-shelf.patience.left c.end_one.new.patience.left (device c.args.shelf.now) (device c.loop-shelf.shelf) (device c.end_one.new.shelf) c.loop-shelf.invariant (omega (arith, some)) c.if-not-end_one.ensures
