use Rattle.std.proofs.Common.{◌≡◌, Some, sym, subst, ap, ◌∙◌}
use Rattle.lvm_session.specs.declared.open.Power.TheVariants as power
use Rattle.lvm_session.specs.Fields.{core_of}
use Rattle.lvm_session.specs.State.{Core, state}
use Rattle.lvm_keeps_events.specs.Opening.{IsApart}
use Rattle.lvm_going.proofs.JoinsLemmas.{leaves_moving, leaves_none}
use Rattle.lvm_driver.proofs.AnswersLemmas.{is_off}
use Rattle.lvm_driver.proofs.FieldsLemmas.{move_on}
use Rattle.lvm_driver.proofs.driver.Driver.open_move.Goals as goal

pub returns-in-Err-clause-off : goal.returns-in-Err-clause-off
returns-in-Err-clause-off g c = rw (← c.self.view_is) (is_off (state (g.S.Shelf.device c.self.inside.shelf) (core_of c.self.inside.session)) c.self.invariant.1)

pub returns-in-Ok-clause-off : goal.returns-in-Ok-clause-off
returns-in-Ok-clause-off g c = rw (← c.self.view_is) (is_off (state (g.S.Shelf.device c.self.inside.shelf) (core_of c.self.inside.session)) c.self.invariant.1)

pub returns-in-Err-clause-leaves : goal.returns-in-Err-clause-leaves
returns-in-Err-clause-leaves g c = rw (← c.self.view_is) (leaves_moving (leaves_none (state (g.S.Shelf.device c.self.inside.shelf) (core_of c.self.inside.session))))

pub returns-in-Ok-clause-leaves : goal.returns-in-Ok-clause-leaves
returns-in-Ok-clause-leaves g c = rw (← c.self.view_is)
    (move_on (g.S.Shelf.device c.self.inside.shelf) c.self.inside.session c.open_move-answer.new.session (c.self.invariant.0, c.self.invariant.1, c.self.invariant.3) c.open_move-answer.ensures.rooms c.args.lv c.args.lp c.args.number c.args.to c.open_move-answer.result
    (subst (λ (v : g.row.S.Denot × Core). v.1.power ≡ power.Stuck → ⊥) (sym c.self.view_is) c.requires.unstuck)
    (subst (λ (v : g.row.S.Denot × Core). IsApart v.1.descriptor c.args.lv c.args.lp c.args.number c.args.to) (sym c.self.view_is) c.requires.apart)
    c.open_move-answer.ensures.gives c.in-Ok.ensures.may c.open_move-answer.ensures.memory).left

pub invariant_of-self : goal.invariant_of-self
invariant_of-self g c =
    let sound = (move_on (g.S.Shelf.device c.self.inside.shelf) c.self.inside.session c.open_move-answer.new.session (c.self.invariant.0, c.self.invariant.1, c.self.invariant.3) c.open_move-answer.ensures.rooms c.args.lv c.args.lp c.args.number c.args.to c.open_move-answer.result
    (subst (λ (v : g.row.S.Denot × Core). v.1.power ≡ power.Stuck → ⊥) (sym c.self.view_is) c.requires.unstuck)
    (subst (λ (v : g.row.S.Denot × Core). IsApart v.1.descriptor c.args.lv c.args.lp c.args.number c.args.to) (sym c.self.view_is) c.requires.apart)
    c.open_move-answer.ensures.gives c.in-Ok.ensures.may c.open_move-answer.ensures.memory).sound in
    (sound.0, sound.1, c.all_due-self-inside.ensures, ap Some c.in-Ok.ensures.ready ∙ sound.2)
