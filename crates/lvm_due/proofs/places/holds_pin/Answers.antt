use Rattle.std.proofs.Common.{sym, ap}
use Rattle.lvm_session.specs.declared.open.Open.{Open}
use Rattle.lvm_due.proofs.AtPlaces.{read_same}
use Rattle.lvm_due.proofs.places.holds_pin.Goals as goal

pub returns : goal.returns
returns c o there = ap (λ (x : Open). x.request.pinned) (sym (read_same c.args.session.now.requests.items c.args.place c.index.result.now o there c.index.ensures))
