use Rattle.std.proofs.Common.{◌≡◌, ◌↔◌, IsTrue, List, ap, ◌∙◌, subst}
use Rattle.std.specs.List.{list_all}
use Rattle.lvm_allowed.specs.declared.row.Ask.{Ask}
use Rattle.lvm_history.specs.passed.Vol.{Fact, Legal, Log}
use Rattle.lvm_allowed.specs.Fitting.{is_bounded}
use Rattle.lvm_history.specs.Opened.{kept_of}
use Rattle.lvm_allowed.specs.Rows.{facts_of}
use Rattle.lvm_history.proofs.KeepingLemmas.{all_bounded, facts_alike}
use Rattle.lvm_history.proofs.history.History.is_legal.Goals as goal

pub is_legal-requires : goal.is_legal-requires
is_legal-requires c = ap (λ (l : List Ask). list_all is_bounded l) c.deref-2.ensures.value ∙ all_bounded (kept_of c.self.inside) c.self.invariant.kept

pub returns : goal.returns
returns c =
    let are : facts_of c.self.inside.run c.deref-2.result.now c.deref-3.result.now c.deref.result.now ≡ c.args.self.now.facts =
    facts_alike c.self.inside.run c.deref-2.ensures.value c.deref-3.ensures.value c.deref.ensures.value ∙ ap (λ (x : Log). x.facts) c.self.view_is in
    subst (λ (l : List Fact). IsTrue c.is_legal.result ↔ Legal l) are (c.is_legal.ensures c.self.inside.run)
