use Rattle.lvm_core.proofs.parts.Parts.are_placed.Goals as goal

pub returns-clause-no : goal.returns-clause-no
returns-clause-no g c = rw (← c.self.view_is) (λ is all. c.are_placed.ensures.no is (rw (c.as_slice-members.ensures, c.wanted.ensures) all))
