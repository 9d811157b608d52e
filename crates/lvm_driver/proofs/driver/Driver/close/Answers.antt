use Rattle.lvm_session.specs.Fields.{core_of}
use Rattle.lvm_driver.proofs.LogLemmas.{all_landed}
use Rattle.lvm_driver.proofs.driver.Driver.close.Goals as goal

pub returns-clause-landed : goal.returns-clause-landed
returns-clause-landed g c = rw (← c.self.view_is) (all_landed (core_of c.self.inside.session) c.self.invariant.1.told)
