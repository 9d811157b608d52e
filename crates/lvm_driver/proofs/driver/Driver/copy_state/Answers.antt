use Rattle.lvm_driver.proofs.driver.Driver.copy_state.Goals as goal

pub returns-clause-caused : goal.returns-clause-caused
returns-clause-caused g c = rw (← c.self.view_is) c.self.invariant.1.copy
