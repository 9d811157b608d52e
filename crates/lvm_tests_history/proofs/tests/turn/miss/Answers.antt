use Rattle.std.proofs.Common.{[], ◌∷◌, inl, refl}
use Rattle.lvm_turn.proofs.CallsLemmas.Idle.{idle_holds, idle_missed}
use Rattle.lvm_tests_history.proofs.tests.turn.miss.Goals as goal

pub try_enter-requires-clause-holds : goal.try_enter-requires-clause-holds
try_enter-requires-clause-holds g c = (c.args.client, idle_holds c.args.turn.now.table (c.args.client ∷ []) c.args.pass c.requires c.args.client (inl refl))

pub returns : goal.returns
returns g c = idle_missed c.args.turn.now.table (c.args.client ∷ []) c.args.pass c.requires c.try_enter.new.pass c.try_enter.ensures.at c.in-None.ensures.none
