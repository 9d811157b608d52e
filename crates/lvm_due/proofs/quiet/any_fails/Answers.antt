use Rattle.std.proofs.Common.{◌∙◌, ap}
use Rattle.lvm_session.specs.Fields.{core_of}
use Rattle.lvm_due.proofs.AtPlaces.{read_same}
use Rattle.lvm_due.specs.Due.{any_fails}
use Rattle.lvm_due.proofs.quiet.any_fails.Goals as goal

pub returns : goal.returns
returns c o there = c.fails.ensures ∙ ap (any_fails (core_of c.args.session.now)) (read_same c.args.session.now.requests.items c.args.place c.index.result.now o there c.index.ensures)
