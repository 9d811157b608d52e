use Rattle.std.proofs.Common.{[], ◌∷◌}
use Rattle.lvm_turn.specs.Calls.{IsIdlePass}
use Rattle.lvm_tests_history.proofs.tests.turn.work.Given as goal

abbrev pub invariant-loop : goal.invariant-loop
invariant-loop g l = IsIdlePass l.turn.table (l.client ∷ []) l.pass
