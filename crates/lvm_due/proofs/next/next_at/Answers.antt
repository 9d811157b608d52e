use Rattle.std.proofs.Common.{◌∙◌, sym, ap}
use Rattle.lvm_due.specs.passed.Session.{Open, core_of, next_for}
use Rattle.lvm_due.proofs.Nexts.{queued}
use Rattle.lvm_due.proofs.AtPlaces.{read_same, stands}
use Rattle.lvm_due.proofs.next.next_at.Goals as goal

pub next_of-requires-clause-queued : goal.next_of-requires-clause-queued
next_of-requires-clause-queued c =
    queued (core_of c.args.session.now) c.requires.going c.args.place c.index-open.result.now (stands c.args.session.now.requests.items c.args.place c.index-open.result.now c.requires.there c.index-open.ensures)
    (sym c.is_waiting.ensures ∙ c.if-not-is_waiting.false)

pub returns : goal.returns
returns c o there =
    let same = read_same c.args.session.now.requests.items c.args.place c.index-open.result.now o there c.index-open.ensures in
    c.next_of.ensures ∙ ap (λ (x : Open). next_for (core_of c.args.session.now) x) same
