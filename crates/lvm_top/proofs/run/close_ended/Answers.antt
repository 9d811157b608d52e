use Rattle.lvm_top.proofs.EndingLemmas.{closed_by}
use Rattle.lvm_top.proofs.run.close_ended.Goals as goal

pub returns-clause-shelf : goal.returns-clause-shelf
returns-clause-shelf g c = closed_by g.S.Shelf.device c.args.driver.1.power (g.S.Shelf.device c.args.driver.0) c.ended.result.holder c.close.result.shelf c.ended.ensures.ended.shelf c.ended.ensures.ended.session c.close.ensures.off
