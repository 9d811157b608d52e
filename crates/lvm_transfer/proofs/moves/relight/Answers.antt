use Rattle.lvm_transfer.proofs.TransferLemmas.Waiting.{none_freed, one_freed, lit_moments}
use Rattle.lvm_transfer.proofs.moves.relight.Goals as goal

pub loop-init : goal.loop-init
loop-init g c = none_freed (g.S.Shelf.device c.args.shelf.now)

pub loop-preserved-in-Some : goal.loop-preserved-in-Some
loop-preserved-in-Some g c =
    one_freed (g.S.Shelf.device c.args.shelf.now) (g.S.Shelf.device c.loop.shelf) (g.S.Shelf.device c.next_freed.new.self) c.in-Some.field-0 c.loop.invariant c.in-Some.ensures

pub returns-clause-moments : goal.returns-clause-moments
returns-clause-moments g c =
    lit_moments (g.S.Shelf.device c.args.shelf.now) (g.S.Shelf.device c.loop.shelf) (g.S.Shelf.device c.next_freed.new.self) (g.S.Shelf.device c.light.new.self) c.requires c.loop.invariant
    c.in_default.ensures.0 c.in_default.ensures.1 c.light.ensures
