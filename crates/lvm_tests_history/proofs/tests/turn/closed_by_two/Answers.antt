use Rattle.std.proofs.Common.{[], ◌∷◌, refl}
use Rattle.lvm_turn.proofs.CallsLemmas.Idle.{idle_all, idle_joined}
use Rattle.lvm_tests_history.proofs.tests.turn.closed_by_two.Goals as goal

pub close-requires-clause-all : goal.close-requires-clause-all
close-requires-clause-all c =
    let table = c.args.turn.table in
    let both = idle_joined table (1 ∷ []) c.args.one c.requires.one (2 ∷ []) c.args.two c.join.new.pass c.requires.two c.join.ensures.joined in
    idle_all table (1 ∷ 2 ∷ []) c.join.new.pass both 2 c.args.turn.clients c.requires.clients refl
