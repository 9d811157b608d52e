use Rattle.std.proofs.Common.{ap}
use Rattle.lvm_vol.specs.Log.{Log}
use Rattle.lvm_top.proofs.EndingLemmas.{empty_concludes, serving_concludes}
use Rattle.lvm_top.proofs.run.conclude.Goals as goal

pub returns-in-Empty-clause-concludes : goal.returns-in-Empty-clause-concludes
returns-in-Empty-clause-concludes g c =
    empty_concludes g.S.Shelf.device c.args.stage.posts.items c.in-Empty.driver _ c.args.stage.holder c.in-Empty.is c.requires.between c.requires.fits.kind c.close.ensures.shelf (ap (λ (l : Log). l.facts) c.close.ensures.history)

pub returns-in-Serving-clause-concludes : goal.returns-in-Serving-clause-concludes
returns-in-Serving-clause-concludes g c = serving_concludes g.S.Shelf.device c.args.stage.posts.items c.in-Serving.driver _ c.args.stage.holder c.in-Serving.is c.requires.fits.kind c.run_out.ensures.ends
