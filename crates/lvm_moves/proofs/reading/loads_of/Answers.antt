use Rattle.lvm_session.specs.Fields.{core_of}
use Rattle.lvm_session.proofs.EventsLemmas.{loads_are}
use Rattle.lvm_moves.proofs.reading.loads_of.Goals as goal

pub returns : goal.returns
returns c = loads_are (core_of c.args.session.now) c.args.copies.now c.load_at.result c.load_at-2.result c.load_at-3.result c.load_at.ensures c.load_at-2.ensures c.load_at-3.ensures
