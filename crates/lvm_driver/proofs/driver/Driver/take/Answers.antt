use Rattle.lvm_session.specs.Fields.{core_of}
use Rattle.lvm_session.specs.State.{state}
use Rattle.lvm_driver.proofs.AnswersLemmas.{is_caused}
use Rattle.lvm_driver.proofs.FieldsLemmas.{take_on}
use Rattle.lvm_driver.proofs.driver.Driver.take.Goals as goal

pub invariant_of-self : goal.invariant_of-self
invariant_of-self g c =
    let sound = (take_on (g.S.Shelf.device c.self.inside.shelf) c.self.inside.session c.take.new.session (c.self.invariant.0, c.self.invariant.1, c.self.invariant.3) c.take.ensures.rooms c.args.client c.args.id c.take.result c.take.ensures.gives).sound in
    (sound.0, sound.1, c.take.ensures.due, sound.2)

pub returns-clause-caused : goal.returns-clause-caused
returns-clause-caused g c = rw (← c.self.view_is) (is_caused (state (g.S.Shelf.device c.self.inside.shelf) (core_of c.self.inside.session)) c.args.client c.args.id c.self.invariant.1)

pub returns-clause-runs : goal.returns-clause-runs
returns-clause-runs g c = rw (← c.self.view_is)
    (take_on (g.S.Shelf.device c.self.inside.shelf) c.self.inside.session c.take.new.session (c.self.invariant.0, c.self.invariant.1, c.self.invariant.3) c.take.ensures.rooms c.args.client c.args.id c.take.result c.take.ensures.gives).left
