use Rattle.std.proofs.Common.{◌≡◌, sym, subst}
use Rattle.lvm_session.specs.declared.open.Power.TheVariants as power
use Rattle.lvm_session.specs.Fields.{core_of}
use Rattle.lvm_session.specs.State.{Core, state}
use Rattle.lvm_driver.proofs.AnswersLemmas.{is_off}
use Rattle.lvm_driver.proofs.FieldsLemmas.{submit_on}
use Rattle.lvm_driver.proofs.driver.Driver.submit.Goals as goal

pub invariant_of-self : goal.invariant_of-self
invariant_of-self g c =
    let sound = (submit_on (g.S.Shelf.device c.self.inside.shelf) c.self.inside.session c.submit.new.session (c.self.invariant.0, c.self.invariant.1, c.self.invariant.3) c.submit.ensures.rooms _ _ _ _
    (subst (λ (v : g.row.S.Denot × Core). v.1.power ≡ power.Stuck → ⊥) (sym c.self.view_is) c.requires.unstuck) c.requires.asks c.submit.ensures.gives).sound in
    (sound.0, sound.1, c.submit.ensures.due, sound.2)

pub returns-clause-off : goal.returns-clause-off
returns-clause-off g c = rw (← c.self.view_is) (is_off (state (g.S.Shelf.device c.self.inside.shelf) (core_of c.self.inside.session)) c.self.invariant.1)

pub returns-clause-gives : goal.returns-clause-gives
returns-clause-gives g c = rw (← c.self.view_is) c.submit.ensures.gives

pub returns-clause-runs : goal.returns-clause-runs
returns-clause-runs g c = rw (← c.self.view_is)
    (submit_on (g.S.Shelf.device c.self.inside.shelf) c.self.inside.session c.submit.new.session (c.self.invariant.0, c.self.invariant.1, c.self.invariant.3) c.submit.ensures.rooms _ _ _ _
    (subst (λ (v : g.row.S.Denot × Core). v.1.power ≡ power.Stuck → ⊥) (sym c.self.view_is) c.requires.unstuck) c.requires.asks c.submit.ensures.gives).left
