use Rattle.std.proofs.Common.{◌≡◌, sym, subst}
use Rattle.lvm_session.specs.declared.open.Power.TheVariants as power
use Rattle.lvm_session.specs.State.{Core}
use Rattle.lvm_driver.proofs.FieldsLemmas.{order_on}
use Rattle.lvm_driver.proofs.driver.Driver.arrange.Goals as goal

pub invariant_of-self : goal.invariant_of-self
invariant_of-self g c =
    let sound = (order_on (g.S.Shelf.device c.self.inside.shelf) (g.S.Shelf.device c.arrange-done.new.shelf) c.self.inside.session c.arrange-done.new.session (c.self.invariant.0, c.self.invariant.1, c.self.invariant.3) c.arrange-done.ensures.rooms c.args.what c.arrange-done.result
    (subst (λ (v : g.row.S.Denot × Core). v.1.power ≡ power.Stuck → ⊥) (sym c.self.view_is) c.requires.unstuck)
    c.arrange-done.ensures.gives).sound in
    (sound.0, sound.1, c.all_due-self-inside.ensures, sound.2)

pub returns-clause-leaves : goal.returns-clause-leaves
returns-clause-leaves g c = rw (← c.self.view_is)
    (order_on (g.S.Shelf.device c.self.inside.shelf) (g.S.Shelf.device c.arrange-done.new.shelf) c.self.inside.session c.arrange-done.new.session (c.self.invariant.0, c.self.invariant.1, c.self.invariant.3) c.arrange-done.ensures.rooms c.args.what c.arrange-done.result
    (subst (λ (v : g.row.S.Denot × Core). v.1.power ≡ power.Stuck → ⊥) (sym c.self.view_is) c.requires.unstuck)
    c.arrange-done.ensures.gives).left
