use Rattle.std.proofs.Common.{inl, arith}
use Rattle.lvm_session.specs.Fields.{core_of}
use Rattle.lvm_session.specs.State.{state}
use Rattle.lvm_moves.proofs.OutLemmas.{may_end}
use Rattle.lvm_session_turn.proofs.TurnsLemmas.{has_ended}
use Rattle.lvm_session_turn.proofs.ending.end_one.Goals as goal

pub reap_row-requires-clause-rows : goal.reap_row-requires-clause-rows
reap_row-requires-clause-rows g c = (c.requires.sound.on c.requires.on).rows

pub reap_row-requires-clause-out : goal.reap_row-requires-clause-out
reap_row-requires-clause-out g c = inl c.requires.out

pub learn-requires : goal.learn-requires
learn-requires g c =
    let core = core_of c.args.session.now in
    has_ended (state (g.S.Shelf.device c.args.shelf.now) core) (g.S.Shelf.device c.reap_row.new.shelf) core c.in-Ended.at c.in-Ended.row c.in-Ended.ok c.in-Ended.buf c.requires.sound c.requires.on c.in-Ended.ensures

pub darken-requires : goal.darken-requires
darken-requires g c = may_end (core_of c.args.session.now) (c.requires.sound.on c.requires.on).going

pub returns-in-Ended-clause-due : goal.returns-in-Ended-clause-due
returns-in-Ended-clause-due g c =
    c.ended.ensures (core_of c.args.session.now) c.in-Ended.at c.in-Ended.buf (c.requires.sound.on c.requires.on).going (c.is_quiet_for-quiet.ensures (c.requires.sound.on c.requires.on).going) c.learn.ensures.learns c.requires.due

pub returns-in-Dark-clause-due : goal.returns-in-Dark-clause-due
returns-in-Dark-clause-due g c = let long = c.len.ensures in c.all.ensures (core_of c.darken.new.session) (omega (arith, long))
