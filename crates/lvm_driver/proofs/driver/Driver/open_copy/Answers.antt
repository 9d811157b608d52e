use Rattle.std.proofs.Common.{◌≡◌, sym, subst}
use Rattle.lvm_session.specs.declared.open.Power.TheVariants as power
use Rattle.lvm_session.specs.Fields.{core_of}
use Rattle.lvm_session.specs.State.{Core, state}
use Rattle.lvm_driver.proofs.AnswersLemmas.{is_off}
use Rattle.lvm_driver.proofs.FieldsLemmas.{open_on}
use Rattle.lvm_driver.proofs.driver.Driver.open_copy.Goals as goal

pub invariant_of-self : goal.invariant_of-self
invariant_of-self g c =
    let sound = (open_on (g.S.Shelf.device c.self.inside.shelf) c.self.inside.session c.open_copy-answer.new.session (c.self.invariant.0, c.self.invariant.1, c.self.invariant.3) c.open_copy-answer.ensures.rooms c.args.lv c.args.lp c.args.number c.open_copy-answer.result
    (subst (λ (v : g.row.S.Denot × Core). v.1.power ≡ power.Stuck → ⊥) (sym c.self.view_is) c.requires.unstuck) c.open_copy-answer.ensures.gives).sound in
    (sound.0, sound.1, c.all_due-self-inside.ensures, sound.2)

pub returns-clause-off : goal.returns-clause-off
returns-clause-off g c = rw (← c.self.view_is) (is_off (state (g.S.Shelf.device c.self.inside.shelf) (core_of c.self.inside.session)) c.self.invariant.1)

pub returns-clause-leaves : goal.returns-clause-leaves
returns-clause-leaves g c = rw (← c.self.view_is)
    (open_on (g.S.Shelf.device c.self.inside.shelf) c.self.inside.session c.open_copy-answer.new.session (c.self.invariant.0, c.self.invariant.1, c.self.invariant.3) c.open_copy-answer.ensures.rooms c.args.lv c.args.lp c.args.number c.open_copy-answer.result
    (subst (λ (v : g.row.S.Denot × Core). v.1.power ≡ power.Stuck → ⊥) (sym c.self.view_is) c.requires.unstuck) c.open_copy-answer.ensures.gives).left
