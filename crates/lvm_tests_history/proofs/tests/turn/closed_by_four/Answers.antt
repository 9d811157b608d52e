use Rattle.std.proofs.Common.{[], ◌∷◌, refl}
use Rattle.lvm_turn.proofs.CallsLemmas.Idle.{idle_all, idle_joined}
use Rattle.lvm_tests_history.proofs.tests.turn.closed_by_four.Goals as goal

pub close-requires-clause-all : goal.close-requires-clause-all
close-requires-clause-all c =
    let table = c.args.turn.table in
    let asked = c.requires in
    let passes = c.args.passes in
    let two = idle_joined table (1 ∷ []) passes.0.0 asked.one (2 ∷ []) passes.0.1 c.join.new.pass asked.two c.join.ensures.joined in
    let three = idle_joined table (1 ∷ 2 ∷ []) c.join.new.pass two (3 ∷ []) passes.1.0 c.join-2.new.pass asked.three c.join-2.ensures.joined in
    let four = idle_joined table (1 ∷ 2 ∷ 3 ∷ []) c.join-2.new.pass three (4 ∷ []) passes.1.1 c.join-3.new.pass asked.four c.join-3.ensures.joined in
    idle_all table (1 ∷ 2 ∷ 3 ∷ 4 ∷ []) c.join-3.new.pass four 4 c.args.turn.clients asked.clients refl
