use Rattle.std.proofs.Common.{ℕ, [], ◌∷◌, ap, sym, subst, inl, refl}
use Rattle.lvm_turn.specs.Views.{HoldsClient}
use Rattle.lvm_turn.proofs.CallsLemmas.Leaving.{may_leave}
use Rattle.lvm_turn.proofs.CallsLemmas.Idle.{idle_holds, idle_left}
use Rattle.lvm_tests_history.proofs.tests.turn.work_once.Goals as goal

pub try_enter-requires-clause-holds : goal.try_enter-requires-clause-holds
try_enter-requires-clause-holds g c = (c.args.client, idle_holds c.args.turn.now.table (c.args.client ∷ []) c.args.pass c.requires c.args.client (inl refl))

pub leave-requires-clause-may : goal.leave-requires-clause-may
leave-requires-clause-may g c =
    let begun = c.begin.ensures.begun in
    let held = idle_holds c.args.turn.now.table (c.args.client ∷ []) c.args.pass c.requires c.args.client (inl refl) in
    may_leave _ _ _ c.args.pass.knows c.try_enter.new.pass.knows c.in-Some.desk c.begin.new.self begun.0 c.in-Some.ensures.entered c.in-Some.ensures.value begun.1
    (λ k absent. begun.2 k (λ same. absent (subst (HoldsClient c.args.pass.knows.clients) (sym same) held)))
    (ap (λ (run : ℕ). record { numbers = run ∷ []; past = _ }) c.begin.ensures.run)
    (c.begin.ensures.lent, tt)
    tt

pub returns : goal.returns
returns g c =
    let found = c.in-Some.desk in
    let left = c.begin.new.self in
    idle_left c.args.turn.now.table (c.args.client ∷ []) c.args.pass c.requires c.try_enter.new.pass c.leave.new.pass
    record { entries = found.history.facts; fixed = found.history.run ∷ []; counts = found.lent ∷ [] }
    record { entries = left.history.facts; fixed = left.history.run ∷ []; counts = left.lent ∷ [] }
    c.try_enter.ensures.at c.in-Some.ensures.entered c.leave.ensures
