use Rattle.std.proofs.Common.{refl, sym, subst, ◌∙◌}
use Rattle.lvm_session.specs.State.{state_of}
use Rattle.lvm_driver.specs.Showing.{image_of}
use Rattle.lvm_load.specs.Bringing.{BringsOn}
use Rattle.lvm_load.specs.declared.lent.Lent.{Lent}
use Rattle.lvm_load.proofs.LendingLemmas.Bringing.{brought_gives, brought_serves, nothing_brings}
use Rattle.lvm_load.proofs.lent.LentBrings.bring.Goals as goal

pub returns-then-not-self : goal.returns-then-not-self
returns-then-not-self g c =
    let plan = g.J.Lending.plan in
    let device = g.S.Shelf.device in
    let x = c.args.self.now in
    nothing_brings {V = Lent g.row.S.Denot g.row.J.Denot} plan (λ d. state_of device d.driver) _ (λ d. image_of plan.first.device) (λ v w. refl) x x c.requires.always.0 c.args.at (sym c.requires.always.5 ∙ c.if-not-self.true) refl c.requires.always

pub returns : goal.returns
returns g c =
    let plan = g.J.Lending.plan in
    let device = g.S.Shelf.device in
    let was = c.requires.always in
    let x = c.args.self.now in
    let y : Lent g.row.S.Denot g.row.J.Denot = record x { driver = c.bring_on-brought.new.driver } in
    let on = sym was.5 ∙ c.if-not-self.false in
    let brings = subst (λ n. BringsOn n c.args.at (state_of device x.driver) (state_of device y.driver) c.bring_on-brought.result) was.2 c.bring_on-brought.ensures in
    brought_gives {V = Lent g.row.S.Denot g.row.J.Denot} plan (λ d. state_of device d.driver) _ (λ d. image_of plan.first.device) (λ v w. refl) x y was.0 c.args.at c.bring_on-brought.result on brings (
      brought_serves {V = Lent g.row.S.Denot g.row.J.Denot} plan (λ d. state_of device d.driver) (λ d. Unit {0}) (λ d. image_of plan.first.device) (λ v w. refl) x y was.0 c.args.at c.bring_on-brought.result on brings c.is_sound.ensures,
      was.1,
      was.2,
      was.3,
      was.4,
      was.5,
      was.6,
      was.7,
    )
