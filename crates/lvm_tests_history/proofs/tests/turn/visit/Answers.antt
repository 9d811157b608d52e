use Rattle.std.proofs.Common.{[], ◌∷◌, sym, inl, refl}
use Rattle.std.proofs.lemmas.List.{append-nil}
use Rattle.lvm_vol.proofs.FrontsLemmas.{none_fell}
use Rattle.lvm_turn.proofs.CallsLemmas.Leaving.{may_leave}
use Rattle.lvm_turn.proofs.CallsLemmas.Idle.{idle_holds, idle_left}
use Rattle.lvm_tests_history.proofs.tests.turn.visit.Goals as goal

pub enter-value-requires-clause-holds : goal.enter-value-requires-clause-holds
enter-value-requires-clause-holds g c = (c.args.client, idle_holds c.args.turn.now.table (c.args.client ∷ []) c.args.pass c.requires c.args.client (inl refl))

pub leave-requires-clause-may : goal.leave-requires-clause-may
leave-requires-clause-may g c =
    let y = c.enter-value.result in
    may_leave g.V.Shown.tells g.V.Past.past g.V.Shown.always c.args.pass.knows c.enter-value.new.pass.knows y y [] c.enter-value.ensures.entered c.enter-value.ensures.value
    (sym (append-nil (g.V.Shown.tells y).entries)) (λ k absent. refl) refl (none_fell (g.V.Shown.tells y).counts) c.enter-value.ensures.value.always_holds

pub returns : goal.returns
returns g c =
    let told = g.V.Shown.tells c.enter-value.result in
    idle_left c.args.turn.now.table (c.args.client ∷ []) c.args.pass c.requires c.enter-value.new.pass c.leave.new.pass told told c.enter-value.ensures.at c.enter-value.ensures.entered c.leave.ensures
