use Rattle.std.proofs.Common.{refl}
use Rattle.lvm_session.specs.Fields.{core_of}
use Rattle.lvm_session.specs.State.{state}
use Rattle.lvm_session_turn.proofs.TakingLemmas.{started_there, starts}
use Rattle.lvm_session_turn.proofs.first.start.Goals as goal

pub started-requires : goal.started-requires
started-requires g c =
    record { there = started_there c.args.event (state (g.S.Shelf.device c.args.shelf.now) (core_of c.args.session.now)) (state (g.S.Shelf.device c.make_start.new.shelf) (core_of c.make_start.new.session)) c.in-Moved.ensures.gives }

pub returns-in-Moved-clause-due : goal.returns-in-Moved-clause-due
returns-in-Moved-clause-due g c =
    let device = g.S.Shelf.device c.args.shelf.now in
    let core = core_of c.args.session.now in
    c.started.ensures (state device core) (state (g.S.Shelf.device c.make_start.new.shelf) (core_of c.make_start.new.session)) c.requires.going refl (starts c.args.event device core c.requires.may)
    c.in-Moved.ensures.gives c.requires.due
