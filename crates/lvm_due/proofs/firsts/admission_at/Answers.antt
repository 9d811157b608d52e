use Rattle.std.proofs.Common.{Some, None, if◌then◌else◌, sym, ◌∙◌, ap}
use Rattle.lvm_due.specs.passed.SessionEventEvent as event
use Rattle.lvm_due.specs.passed.Session.{Open, is_admit, core_of, facts_of, next_for}
use Rattle.lvm_due.proofs.NotNextLemmas.{admits_not}
use Rattle.lvm_due.proofs.AtPlaces.{read_same}
use Rattle.lvm_due.proofs.firsts.admission_at.Goals as goal

pub returns-then-not-might_admit : goal.returns-then-not-might_admit
returns-then-not-might_admit c o there =
    let core = core_of c.args.session.now in
    let found : Open = c.index.result.now in
    let same = read_same c.args.session.now.requests.items c.args.place found o there c.index.ensures in
    let none = admits_not (facts_of core found.request) found.request found.request.phase (sym c.might_admit.ensures ∙ c.if-not-might_admit.true) in
    sym (ap (λ (x : Open). if is_admit (next_for core x) then Some (event.Admit c.args.place) else None) (sym same) ∙ ap (λ b. if b then Some (event.Admit c.args.place) else None) none)
