use Rattle.std.proofs.Common.{None, [], ◌∷◌}
use Rattle.lvm_tests_history.specs.declared.tests.turn.Desk.{Desk}
use Rattle.lvm_turn.proofs.CallsLemmas.Idle.{idle_first}
use Rattle.lvm_tests_history.proofs.tests.turn.opened.Goals as goal

pub returns-clause-idle : goal.returns-clause-idle
returns-clause-idle g c =
    idle_first {V = Desk} (λ d. record { entries = d.history.facts; fixed = d.history.run ∷ []; counts = d.lent ∷ [] }) (λ d. None) c.in-Ok.made.0.table c.args.clients c.expect-desk.result c.in-Ok.made.1 c.in-Ok.ensures.at c.in-Ok.ensures.knows
