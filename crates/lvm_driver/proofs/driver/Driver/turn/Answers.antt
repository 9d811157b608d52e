use Rattle.lvm_session.specs.Fields.{core_of}
use Rattle.lvm_session.specs.State.{state}
use Rattle.lvm_keeps_events.proofs.ReadingLemmas.{turn_gets}
use Rattle.lvm_keeps_events.proofs.TellingLemmas.Telling.{turn_tells}
use Rattle.lvm_driver.proofs.FieldsLemmas.{turn_on}
use Rattle.lvm_driver.proofs.driver.Driver.turn.Goals as goal

pub invariant_of-self : goal.invariant_of-self
invariant_of-self g c =
    let sound = (turn_on (g.S.Shelf.device c.self.inside.shelf) (g.S.Shelf.device c.turn.new.shelf) c.self.inside.session c.turn.new.session (c.self.invariant.0, c.self.invariant.1, c.self.invariant.3) c.turn.ensures.rooms c.turn.result
    (g.met.S.Shelf.sectors_are_whole c.turn.new.shelf) c.statuses_are_valid.ensures c.turn.ensures.makes).sound in
    (sound.0, sound.1, c.turn.ensures.due, sound.2)

pub returns-clause-tells : goal.returns-clause-tells
returns-clause-tells g c = rw (← c.self.view_is) (turn_tells (state (g.S.Shelf.device c.self.inside.shelf) (core_of c.self.inside.session)) (state (g.S.Shelf.device c.turn.new.shelf) (core_of c.turn.new.session)) c.self.invariant.1 c.turn.result c.turn.ensures.makes)

pub returns-clause-makes : goal.returns-clause-makes
returns-clause-makes g c = rw (← c.self.view_is) c.turn.ensures.makes

pub returns-clause-runs : goal.returns-clause-runs
returns-clause-runs g c = rw (← c.self.view_is)
    (turn_on (g.S.Shelf.device c.self.inside.shelf) (g.S.Shelf.device c.turn.new.shelf) c.self.inside.session c.turn.new.session (c.self.invariant.0, c.self.invariant.1, c.self.invariant.3) c.turn.ensures.rooms c.turn.result
    (g.met.S.Shelf.sectors_are_whole c.turn.new.shelf) c.statuses_are_valid.ensures c.turn.ensures.makes).left

pub returns-clause-got : goal.returns-clause-got
returns-clause-got g c = rw (← c.self.view_is) (turn_gets (state (g.S.Shelf.device c.self.inside.shelf) (core_of c.self.inside.session)) (state (g.S.Shelf.device c.turn.new.shelf) (core_of c.turn.new.session)) c.self.invariant.1 c.turn.result c.turn.ensures.makes)
