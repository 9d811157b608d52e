use Rattle.std.proofs.Common.{ℕ, [], ◌∷◌, ap, sym, subst, inl, refl}
use Rattle.lvm_turn.specs.Views.{HoldsClient}
use Rattle.lvm_turn.proofs.CallsLemmas.Leaving.{may_leave}
use Rattle.lvm_turn.proofs.CallsLemmas.Idle.{idle_holds, idle_left}
use Rattle.lvm_tests_history.proofs.tests.turn.work.Goals as goal

pub enter-desk-requires-clause-holds : goal.enter-desk-requires-clause-holds
enter-desk-requires-clause-holds g c = (c.args.client, idle_holds c.args.turn.now.table (c.args.client ∷ []) c.loop.pass c.loop.invariant c.args.client (inl refl))

pub leave-requires-clause-may : goal.leave-requires-clause-may
leave-requires-clause-may g c =
    let begun = c.begin.ensures.begun in
    let held = idle_holds c.args.turn.now.table (c.args.client ∷ []) c.loop.pass c.loop.invariant c.args.client (inl refl) in
    may_leave _ _ _ c.loop.pass.knows c.enter-desk.new.pass.knows c.enter-desk.result c.begin.new.self begun.0 c.enter-desk.ensures.entered c.enter-desk.ensures.value begun.1
    (λ k absent. begun.2 k (λ same. absent (subst (HoldsClient c.loop.pass.knows.clients) (sym same) held)))
    (ap (λ (run : ℕ). record { numbers = run ∷ []; past = _ }) c.begin.ensures.run)
    (c.begin.ensures.lent, tt)
    tt

pub loop-preserved : goal.loop-preserved
loop-preserved g c =
    let found = c.enter-desk.result in
    let left = c.begin.new.self in
    idle_left c.args.turn.now.table (c.args.client ∷ []) c.loop.pass c.loop.invariant c.enter-desk.new.pass c.leave.new.pass
    record { entries = found.history.facts; fixed = found.history.run ∷ []; counts = found.lent ∷ [] }
    record { entries = left.history.facts; fixed = left.history.run ∷ []; counts = left.lent ∷ [] }
    c.enter-desk.ensures.at c.enter-desk.ensures.entered c.leave.ensures
