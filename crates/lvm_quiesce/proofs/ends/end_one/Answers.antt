use Rattle.lvm_quiesce.proofs.LawsLemmas.Ending.{one_wait, one_done, one_failed, one_cut}
use Rattle.lvm_quiesce.proofs.ends.end_one.Goals as goal

pub returns-in-Empty : goal.returns-in-Empty
returns-in-Empty g c = one_wait (g.S.Shelf.device c.args.shelf.now) (g.S.Shelf.device c.reap.new.self) c.args.patience.now.left c.requires.some c.requires.lit c.in-Empty.ensures

pub returns-in-Done : goal.returns-in-Done
returns-in-Done g c = one_done (g.S.Shelf.device c.args.shelf.now) (g.S.Shelf.device c.reap.new.self) c.args.patience.now.left c.in-Done.ticket c.in-Done.buf c.requires.lit c.in-Done.ensures

pub returns-in-Failed : goal.returns-in-Failed
returns-in-Failed g c = one_failed (g.S.Shelf.device c.args.shelf.now) (g.S.Shelf.device c.reap.new.self) c.args.patience.now.left c.in-Failed.ticket c.in-Failed.buf c.requires.lit c.in-Failed.ensures

pub returns : goal.returns
returns g c = one_cut (g.S.Shelf.device c.args.shelf.now) (g.S.Shelf.device c.reap.new.self) c.args.patience.now.left c.requires.lit c.in-Dark.ensures.0
