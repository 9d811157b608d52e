use Rattle.std.proofs.Common.{◌==◌, List, length, sym, ◌∙◌, ap}
use Rattle.lvm_session.specs.declared.flown.Flown.{Flown}
use Rattle.lvm_session.specs.Fields.{core_of}
use Rattle.lvm_session.specs.State.{state}
use Rattle.lvm_session_turn.proofs.TurnsLemmas.{none_out, rests_so, some_out}
use Rattle.lvm_session_turn.proofs.ending.finish.Goals as goal

pub end_one-requires-clause-out : goal.end_one-requires-clause-out
end_one-requires-clause-out g c =
    let core = core_of c.args.session.now in
    some_out core core.flying (g.S.Shelf.device c.args.shelf.now).flights (c.requires.sound.on c.requires.on).rows (ap (λ (rows : List Flown). length rows == 0) (sym c.as_slice.ensures.value) ∙ sym c.if-is_empty.ensures)

pub returns-then-is_empty-clause-makes : goal.returns-then-is_empty-clause-makes
returns-then-is_empty-clause-makes g c =
    let core = core_of c.args.session.now in
    let device = g.S.Shelf.device c.args.shelf.now in
    rests_so (state device core) (core_of c.rest.new.session) c.rest.result (none_out core core.flying device.flights (c.requires.sound.on c.requires.on).rows (ap (λ (rows : List Flown). length rows == 0) (sym c.as_slice.ensures.value) ∙ sym c.if-is_empty.ensures)) c.rest.ensures.rests
