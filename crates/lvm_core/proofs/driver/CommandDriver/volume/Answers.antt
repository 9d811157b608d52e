use Rattle.lvm_core.proofs.driver.CommandDriver.volume.Goals as goal

pub returns-clause-none : goal.returns-clause-none
returns-clause-none g c = rw (← c.self.view_is) c.number_of.ensures.none
