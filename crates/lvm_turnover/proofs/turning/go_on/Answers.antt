use Rattle.std.proofs.Common.{Bool, List, refl, ap}
use Rattle.lvm_session.specs.declared.open.Power.TheVariants as power
use Rattle.lvm_session.specs.Fields.{core_of}
use Rattle.lvm_turnover.proofs.turning.go_on.Goals as goal

pub returns-in-Done-clause-ends : goal.returns-in-Done-clause-ends
returns-in-Done-clause-ends c = rw c.in-Done.is (refl, ap (λ (p : List Bool). core_of (record c.args.session.now { pool = p })) c.give.ensures)

pub returns-in-WentOff-clause-ends : goal.returns-in-WentOff-clause-ends
returns-in-WentOff-clause-ends c = rw c.in-WentOff.is (refl, ap (λ (p : List Bool). core_of (record c.args.session.now { pool = p; power = power.Off })) c.give-in-WentOff.ensures)

pub returns-in-Dark-clause-ends : goal.returns-in-Dark-clause-ends
returns-in-Dark-clause-ends c = rw c.in-Dark.is (refl, c.darken.ensures.core)

pub returns-in-Stuck-clause-ends : goal.returns-in-Stuck-clause-ends
returns-in-Stuck-clause-ends c = rw c.in-Stuck.is (refl, refl)
