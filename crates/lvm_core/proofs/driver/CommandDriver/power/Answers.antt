use Rattle.lvm_core.proofs.driver.CommandDriver.power.Goals as goal

pub returns-clause-heard : goal.returns-clause-heard
returns-clause-heard g c = c.self.invariant.1.heard
