use Rattle.std.proofs.Common.{[], ◌∷◌, inl, refl}
use Rattle.lvm_turn.proofs.CallsLemmas.Idle.{idle_holds, idle_left}
use Rattle.lvm_tests_history.proofs.tests.turn.visit_beside.Goals as goal

pub try_enter-requires-clause-holds : goal.try_enter-requires-clause-holds
try_enter-requires-clause-holds g c = (c.args.client, idle_holds c.args.turn.now.table (c.args.client ∷ []) c.args.pass c.requires.one c.args.client (inl refl))

pub returns-clause-one : goal.returns-clause-one
returns-clause-one g c =
    let found = c.in-Some.desk in
    idle_left c.args.turn.now.table (c.args.client ∷ []) c.args.pass c.requires.one c.try_enter.new.pass c.leave.new.pass
    record { entries = found.history.facts; fixed = found.history.run ∷ []; counts = found.lent ∷ [] }
    record { entries = found.history.facts; fixed = found.history.run ∷ []; counts = found.lent ∷ [] }
    c.try_enter.ensures.at c.in-Some.ensures.entered c.leave.ensures
