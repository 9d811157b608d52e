use Rattle.std.proofs.Common.{◌∙◌}
use Rattle.lvm_session.specs.Fields.{core_of}
use Rattle.lvm_driver.proofs.MovesLemmas.{ready_is}
use Rattle.lvm_driver.proofs.driver.Driver.is_moving.Goals as goal

pub returns : goal.returns
returns g c = rw (← c.self.view_is) (c.is_some.ensures ∙ ready_is (core_of c.self.inside.session) c.self.inside.next c.self.invariant.3)
