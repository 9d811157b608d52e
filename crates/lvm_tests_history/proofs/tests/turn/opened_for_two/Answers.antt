use Rattle.std.proofs.Common.{[], ◌∷◌, inl, refl}
use Rattle.lvm_turn.proofs.CallsLemmas.Idle.{idle_without, idle_alone, idle_holds}
use Rattle.lvm_tests_history.proofs.tests.turn.opened_for_two.Goals as goal

pub split-two-requires-clause-holds : goal.split-two-requires-clause-holds
split-two-requires-clause-holds g c = idle_holds c.opened-turn.result.0.table (2 ∷ 1 ∷ []) c.opened-turn.result.1 c.opened-turn.ensures.idle 2 (inl refl)

pub returns-clause-one : goal.returns-clause-one
returns-clause-one g c = idle_without c.opened-turn.result.0.table (2 ∷ 1 ∷ []) c.opened-turn.result.1 c.opened-turn.ensures.idle 2 c.split-two.new.pass c.split-two.ensures.kept

pub returns-clause-two : goal.returns-clause-two
returns-clause-two g c = idle_alone c.opened-turn.result.0.table (2 ∷ 1 ∷ []) c.opened-turn.result.1 c.opened-turn.ensures.idle 2 c.split-two.result c.split-two.ensures.given
