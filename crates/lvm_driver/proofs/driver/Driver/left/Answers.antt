use Rattle.lvm_session.specs.Fields.{core_of}
use Rattle.lvm_session.specs.State.{state}
use Rattle.lvm_keeps.proofs.FallsLemmas.Bounding.{left_is_bounded}
use Rattle.lvm_driver.proofs.driver.Driver.left.Goals as goal

pub returns-clause-most : goal.returns-clause-most
returns-clause-most g c = rw (← c.self.view_is, c.left.ensures) (left_is_bounded (state (g.S.Shelf.device c.self.inside.shelf) (core_of c.self.inside.session)) c.self.invariant.1)
