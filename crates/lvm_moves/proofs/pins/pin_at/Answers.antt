use Rattle.std.proofs.Common.{refl, sym, ◌∙◌, ap}
use Rattle.lvm_session.specs.declared.open.Open.{Open}
use Rattle.lvm_session.specs.Enabled.{may_pin}
use Rattle.lvm_session.specs.Fields.{core_of}
use Rattle.lvm_session.specs.Judging.{facts_of, next_for}
use Rattle.lvm_due.proofs.NotNextLemmas.{pins_not}
use Rattle.lvm_due.proofs.AtPlaces.{read_same}
use Rattle.lvm_moves.proofs.PinningLemmas.{other_waits}
use Rattle.lvm_moves.proofs.pins.pin_at.Goals as goal

pub returns-then-not-might_pin-clause-at : goal.returns-then-not-might_pin-clause-at
returns-then-not-might_pin-clause-at c =
    let core = core_of c.args.session.now in
    let found : Open = c.index.result.now in
    let none = pins_not (facts_of core found.request) found.request found.request.phase (sym c.might_pin.ensures ∙ c.if-not-might_pin.true) in
    (refl, λ o there. ap (may_pin core) (sym (read_same c.args.session.now.requests.items c.args.place found o there c.index.ensures)) ∙ other_waits core found (next_for core found) refl none)
