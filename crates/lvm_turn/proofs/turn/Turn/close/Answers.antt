use Rattle.std.proofs.Common.{◌≡◌, Some, sym, ap, ◌∙◌, subst}
use mathlib.Core.Option.{some-injective}
use Rattle.std.specs.Option.{unwrap_or}
use Rattle.lvm_turn.specs.Views.{HoldsAll, View, Standing}
use Rattle.lvm_turn.specs.Turns.{Opened}
use Rattle.lvm_turn.specs.Passes.{view_of}
use Rattle.lvm_turn.specs.Calls.{Continues}
use Rattle.lvm_turn.proofs.CallsLemmas.Ends.{closes_as}
use Rattle.lvm_turn.proofs.turn.Turn.close.Goals as goal

pub unreachable-requires : goal.unreachable-requires
unreachable-requires g c =
    let known : c.into_seat.result.me.0 ≡ c.args.pass.knows = sym (ap view_of c.into_seat.ensures.2) ∙ ap (λ (s : Standing). s.knows) c.pass.view_is in
    let all = subst (λ n. HoldsAll n c.args.pass.knows.clients) (sym (ap (λ (o : Opened). o.clients) c.self.view_is)) c.requires.all in
    let end = closes_as g.V.Shown.tells g.V.Past.past g.V.Shown.always _ _ _ c.into_seat.result.me.0 c.args.pass.knows _ _ known c.requires.outside (ap (λ (v : View). v.spent) (sym (ap view_of c.into_seat.ensures.2)) ∙ c.pass.invariant.live) all c.close_with-closed.ensures.values.2 in
    c.in_default.not-Some end.0 (some-injective _ _ (sym c.take-value.ensures.value ∙ end.1))

pub returns : goal.returns
returns g c =
    let known : c.into_seat.result.me.0 ≡ c.args.pass.knows = sym (ap view_of c.into_seat.ensures.2) ∙ ap (λ (s : Standing). s.knows) c.pass.view_is in
    let all = subst (λ n. HoldsAll n c.args.pass.knows.clients) (sym (ap (λ (o : Opened). o.clients) c.self.view_is)) c.requires.all in
    let end = closes_as g.V.Shown.tells g.V.Past.past g.V.Shown.always _ _ _ c.into_seat.result.me.0 c.args.pass.knows _ _ known c.requires.outside (ap (λ (v : View). v.spent) (sym (ap view_of c.into_seat.ensures.2)) ∙ c.pass.invariant.live) all c.close_with-closed.ensures.values.2 in
    let full : Some end.0 ≡ Some c.in-Some.value = some-injective _ _ (sym end.1 ∙ c.take-value.ensures.value) ∙ c.in-Some.is in
    let same = ap (λ o. unwrap_or o end.0) full in
    subst (Continues g.V.Shown.tells g.V.Past.past g.V.Shown.always c.args.pass.knows) same end.2
