use Rattle.std.proofs.Common.{◌∙◌, ap, List}
use Rattle.lvm_allowed.specs.declared.row.Ask.{Ask}
use Rattle.lvm_history.specs.Opened.{kept_of}
use Rattle.lvm_history.specs.Keeping.{ask_found, awaited_by}
use Rattle.lvm_chains.specs.Places.{has_landed_in}
use Rattle.lvm_history.proofs.IndexLemmas.{awaited_told}
use Rattle.lvm_history.proofs.history.History.awaited.Goals as goal

pub returns : goal.returns
returns c =
    c.awaited_in.ensures ∙ ap (λ (l : List Ask). awaited_by (ask_found l c.args.id) (has_landed_in c.self.inside.index c.args.id)) c.deref.ensures.value
    ∙ awaited_told c.self.inside.index (kept_of c.self.inside) c.args.self.now c.args.id c.self.invariant.indexed c.self.invariant.kept c.self.view_is
