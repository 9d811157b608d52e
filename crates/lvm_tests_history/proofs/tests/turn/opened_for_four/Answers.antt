use Rattle.std.proofs.Common.{[], ◌∷◌, inl, inr, refl}
use Rattle.lvm_turn.proofs.CallsLemmas.Idle.{idle_without, idle_alone, idle_holds}
use Rattle.lvm_tests_history.proofs.tests.turn.opened_for_four.Goals as goal

pub split-two-requires-clause-holds : goal.split-two-requires-clause-holds
split-two-requires-clause-holds g c = idle_holds c.opened-turn.result.0.table (4 ∷ 3 ∷ 2 ∷ 1 ∷ []) c.opened-turn.result.1 c.opened-turn.ensures.idle 2 (inr (inr (inl refl)))

pub split-three-requires-clause-holds : goal.split-three-requires-clause-holds
split-three-requires-clause-holds g c =
    let table = c.opened-turn.result.0.table in
    let others = idle_without table (4 ∷ 3 ∷ 2 ∷ 1 ∷ []) c.opened-turn.result.1 c.opened-turn.ensures.idle 2 c.split-two.new.pass c.split-two.ensures.kept in
    idle_holds table (4 ∷ 3 ∷ 1 ∷ []) c.split-two.new.pass others 3 (inr (inl refl))

pub split-four-requires-clause-holds : goal.split-four-requires-clause-holds
split-four-requires-clause-holds g c =
    let table = c.opened-turn.result.0.table in
    let others = idle_without table (4 ∷ 3 ∷ 2 ∷ 1 ∷ []) c.opened-turn.result.1 c.opened-turn.ensures.idle 2 c.split-two.new.pass c.split-two.ensures.kept in
    let fewer = idle_without table (4 ∷ 3 ∷ 1 ∷ []) c.split-two.new.pass others 3 c.split-three.new.pass c.split-three.ensures.kept in
    idle_holds table (4 ∷ 1 ∷ []) c.split-three.new.pass fewer 4 (inl refl)

pub returns-clause-one : goal.returns-clause-one
returns-clause-one g c =
    let table = c.opened-turn.result.0.table in
    let others = idle_without table (4 ∷ 3 ∷ 2 ∷ 1 ∷ []) c.opened-turn.result.1 c.opened-turn.ensures.idle 2 c.split-two.new.pass c.split-two.ensures.kept in
    let fewer = idle_without table (4 ∷ 3 ∷ 1 ∷ []) c.split-two.new.pass others 3 c.split-three.new.pass c.split-three.ensures.kept in
    idle_without table (4 ∷ 1 ∷ []) c.split-three.new.pass fewer 4 c.split-four.new.pass c.split-four.ensures.kept

pub returns-clause-two : goal.returns-clause-two
returns-clause-two g c =
    idle_alone c.opened-turn.result.0.table (4 ∷ 3 ∷ 2 ∷ 1 ∷ []) c.opened-turn.result.1 c.opened-turn.ensures.idle 2 c.split-two.result c.split-two.ensures.given

pub returns-clause-three : goal.returns-clause-three
returns-clause-three g c =
    let table = c.opened-turn.result.0.table in
    let others = idle_without table (4 ∷ 3 ∷ 2 ∷ 1 ∷ []) c.opened-turn.result.1 c.opened-turn.ensures.idle 2 c.split-two.new.pass c.split-two.ensures.kept in
    idle_alone table (4 ∷ 3 ∷ 1 ∷ []) c.split-two.new.pass others 3 c.split-three.result c.split-three.ensures.given

pub returns-clause-four : goal.returns-clause-four
returns-clause-four g c =
    let table = c.opened-turn.result.0.table in
    let others = idle_without table (4 ∷ 3 ∷ 2 ∷ 1 ∷ []) c.opened-turn.result.1 c.opened-turn.ensures.idle 2 c.split-two.new.pass c.split-two.ensures.kept in
    let fewer = idle_without table (4 ∷ 3 ∷ 1 ∷ []) c.split-two.new.pass others 3 c.split-three.new.pass c.split-three.ensures.kept in
    idle_alone table (4 ∷ 1 ∷ []) c.split-three.new.pass fewer 4 c.split-four.result c.split-four.ensures.given
