use Rattle.std.proofs.Common.{◌∙◌, ap, List}
use Rattle.lvm_allowed.specs.declared.row.Ask.{Ask}
use Rattle.lvm_history.specs.Opened.{kept_of}
use Rattle.lvm_history.specs.Keeping.{ask_found, is_open_by}
use Rattle.lvm_chains.specs.Places.{has_landed_in}
use Rattle.lvm_history.proofs.IndexLemmas.{open_told}
use Rattle.lvm_history.proofs.history.History.is_open.Goals as goal

pub returns : goal.returns
returns c =
    c.is_open_in.ensures ∙ ap (λ (l : List Ask). is_open_by (ask_found l c.args.id) (has_landed_in c.self.inside.index c.args.id)) c.deref.ensures.value
    ∙ open_told c.self.inside.index (kept_of c.self.inside) c.args.self.now c.args.id c.self.invariant.indexed c.self.invariant.kept c.self.view_is
