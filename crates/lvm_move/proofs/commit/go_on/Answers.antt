use Rattle.std.proofs.Common.{Bool, List, refl, ap, ◌∙◌}
use Rattle.lvm_session.specs.Dark.{all_off}
use Rattle.lvm_session.specs.Fields.{core_of}
use Rattle.lvm_move.proofs.EndsLemmas.{may_end, may_end_with}
use Rattle.lvm_move.proofs.commit.go_on.Goals as goal

pub go_off-requires : goal.go_off-requires
go_off-requires c = may_end_with (core_of c.args.session.now) c.give-in-WentOff.new.self c.requires.can

pub darken-requires : goal.darken-requires
darken-requires c = may_end (core_of c.args.session.now) c.requires.can

pub returns-in-Done-clause-ends : goal.returns-in-Done-clause-ends
returns-in-Done-clause-ends c = rw c.in-Done.is (refl, ap (λ (p : List Bool). core_of (record c.args.session.now { pool = p })) c.give.ensures)

pub returns-in-WentOff-clause-ends : goal.returns-in-WentOff-clause-ends
returns-in-WentOff-clause-ends c = rw c.in-WentOff.is (refl, c.go_off.ensures.core ∙ ap (λ (p : List Bool). all_off (core_of (record c.args.session.now { pool = p }))) c.give-in-WentOff.ensures)

pub returns-in-Dark-clause-ends : goal.returns-in-Dark-clause-ends
returns-in-Dark-clause-ends c = rw c.in-Dark.is (refl, c.darken.ensures.core)

pub returns-in-Stuck-clause-ends : goal.returns-in-Stuck-clause-ends
returns-in-Stuck-clause-ends c = rw c.in-Stuck.is (refl, refl)
