use Rattle.lvm_volume_lines.proofs.CommandsLemmas.{empty_rests, may_drained, serving_breaks, serving_rests}
use Rattle.lvm_volume_lines.proofs.volumes.come_to_rest.Goals as goal

pub settle-requires : goal.settle-requires
settle-requires g c = record {
  may = may_drained g.S.Shelf.device c.args.holder c.in-Serving.driver c.in-Serving.is c.requires.kind c.requires.between c.requires.none c.drain.new.self c.drain.ensures.turns c.drain.ensures.runs c.in-Ok.ensures.ends;
}

pub returns-in-Empty-clause-rests : goal.returns-in-Empty-clause-rests
returns-in-Empty-clause-rests g c = empty_rests g.S.Shelf.device c.args.holder c.in-Empty.driver c.args.patience.now.left c.in-Empty.is c.requires.kind c.requires.between c.open.ensures.sound

pub returns-in-Ok-clause-rests : goal.returns-in-Ok-clause-rests
returns-in-Ok-clause-rests g c =
    serving_rests g.S.Shelf.device c.args.holder c.in-Serving.driver c.in-Serving.is c.requires.kind c.requires.between c.requires.none c.drain.new.self c.drain.ensures.turns c.drain.ensures.runs
    c.args.patience.now.left c.drain.new.patience.left c.drain.ensures.patience c.drain.ensures.waited c.settle.result (λ t. (c.settle.ensures.shelf t, c.settle.ensures.core t)) c.settle.ensures.settled c.settle.ensures.between

pub returns-in-Err-clause-breaks_off : goal.returns-in-Err-clause-breaks_off
returns-in-Err-clause-breaks_off g c =
    serving_breaks g.S.Shelf.device c.args.holder c.in-Serving.driver c.in-Serving.is c.requires.kind c.requires.between c.requires.none c.drain.new.self c.drain.ensures.turns c.drain.ensures.runs
    c.args.patience.now.left c.drain.new.patience.left c.drain.ensures.patience c.drain.ensures.waited c.in-Err.why c.in-Err.ensures.ends
