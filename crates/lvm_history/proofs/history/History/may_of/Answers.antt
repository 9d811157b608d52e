use Rattle.std.proofs.Common.{◌≡◌, ◌↔◌, IsTrue, List, ap, ◌∙◌, subst}
use Rattle.lvm_history.specs.passed.Vol.{Fact, Log, known, May}
use Rattle.lvm_history.specs.Opened.{kept_of}
use Rattle.lvm_allowed.specs.Rows.{facts_of}
use Rattle.lvm_history.proofs.KeepingLemmas.{facts_alike}
use Rattle.lvm_history.proofs.TurnLemmas.{in_turn_of}
use Rattle.lvm_history.proofs.history.History.may_of.Goals as goal

pub may_have_along-requires-clause-indexed : goal.may_have_along-requires-clause-indexed
may_have_along-requires-clause-indexed c = rw (c.deref.ensures.value, c.deref-2.ensures.value) c.self.invariant.indexed

pub may_have_along-requires-clause-in_turn : goal.may_have_along-requires-clause-in_turn
may_have_along-requires-clause-in_turn c = rw c.deref.ensures.value (in_turn_of (kept_of c.self.inside) c.self.invariant.kept)

pub returns : goal.returns
returns c =
    let are : facts_of c.self.inside.run c.deref-2.result.now c.deref-3.result.now c.deref.result.now ≡ c.args.self.now.facts =
    facts_alike c.self.inside.run c.deref-2.ensures.value c.deref-3.ensures.value c.deref.ensures.value ∙ ap (λ (x : Log). x.facts) c.self.view_is in
    subst (λ (l : List Fact). IsTrue c.may_have_along.result ↔ May (known l c.args.vol c.args.block) c.args.value.now) are (c.may_have_along.ensures c.self.inside.run)
