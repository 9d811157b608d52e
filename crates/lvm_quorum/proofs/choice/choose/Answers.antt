use Rattle.lvm_quorum.proofs.choice.choose.Goals as goal

pub returns-in_default : goal.returns-in_default
returns-in_default c = λ id named. absurd (c.in_default.ensures.none id named)
