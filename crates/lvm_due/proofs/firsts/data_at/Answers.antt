use Rattle.std.proofs.Common.{sym, ◌∙◌, ap}
use Rattle.std.specs.Option.{option_map}
use Rattle.lvm_due.specs.passed.SessionEventEvent as event
use Rattle.lvm_due.specs.passed.Session.{Open, target_next, core_of, facts_of, next_for}
use Rattle.lvm_due.proofs.NotNextLemmas.{starts_not}
use Rattle.lvm_due.proofs.AtPlaces.{read_same}
use Rattle.lvm_due.proofs.firsts.data_at.Goals as goal

pub returns-then-not-might_start : goal.returns-then-not-might_start
returns-then-not-might_start c o there =
    let core = core_of c.args.session.now in
    let found : Open = c.index.result.now in
    let same = read_same c.args.session.now.requests.items c.args.place found o there c.index.ensures in
    let none = starts_not (facts_of core found.request) found.request found.request.phase (sym c.might_start.ensures ∙ c.if-not-might_start.true) in
    sym (ap (λ (x : Open). option_map (event.StartData c.args.place) (target_next (next_for core x))) (sym same) ∙ ap (option_map (event.StartData c.args.place)) none)
