use Rattle.lvm_core.proofs.driver.CommandDriver.close.Goals as goal

pub returns-clause-landed : goal.returns-clause-landed
returns-clause-landed g c = rw (← c.self.view_is) (λ landed. c.self.invariant.1.landed)
