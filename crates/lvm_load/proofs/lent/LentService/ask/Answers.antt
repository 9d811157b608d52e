use Rattle.std.proofs.Common.{◌∙◌, ℕ, Bool, refl, ap₂, if◌then◌else◌}
use Rattle.std.specs.Prelude.{Ok, Err}
use Rattle.lvm_session.specs.State.{state_of}
use Rattle.lvm_driver.specs.Showing.{image_of}
use Rattle.lvm_load.specs.declared.lent.Lent.{Lent}
use Rattle.lvm_load.specs.Lending.{apart_draw}
use Rattle.lvm_load.proofs.LendingLemmas.Serving.{asked_as, asks_serves, begun_gives, refused_gives}
use Rattle.lvm_load.proofs.lent.LentService.ask.Goals as goal

pub returns-in-Ok : goal.returns-in-Ok
returns-in-Ok g c =
    let plan = g.J.Lending.plan in
    let device = g.S.Shelf.device in
    let was = c.requires.always in
    let x = c.args.self.now in
    let y : Lent g.row.S.Denot g.row.J.Denot = record x { driver = c.submit_drawn-asked.new.driver; bytes = c.submit_drawn-asked.new.bytes } in
    let gives = asked_as plan c.args.client c.args.number c.args.drawn.now c.shaped-shaped.result x.lv x.blocks c.word_of-word.result x.driver.1 y.driver.1 (Ok c.in-Ok.id) was.2 was.3
    (c.shaped-shaped.ensures ∙ ap₂ (λ (b : Bool) (n : ℕ). if b then apart_draw n c.args.client c.args.drawn.now else c.args.drawn.now) was.4 was.3) c.word_of-word.ensures c.in-Ok.ensures.gives in
    begun_gives {V = Lent g.row.S.Denot g.row.J.Denot} plan (λ d. state_of device d.driver) _ (λ d. image_of plan.first.device) (λ v w. refl) x y c.args.client was.0 c.args.number c.args.drawn.now c.in-Ok.id gives c.in-Ok.ensures.runs (
      asks_serves {V = Lent g.row.S.Denot g.row.J.Denot} plan (λ d. state_of device d.driver) (λ d. Unit {0}) (λ d. image_of plan.first.device) (λ v w. refl) x y c.args.client was.0 c.args.number c.args.drawn.now (Ok c.in-Ok.id) gives c.in-Ok.ensures.runs
          c.is_sound.ensures c.requires.client.0 c.requires.client.1,
      c.in-Ok.ensures.room,
      was.2,
      was.3,
      was.4,
      was.5,
      was.6,
      was.7,
    )

pub returns-in-Err : goal.returns-in-Err
returns-in-Err g c =
    let plan = g.J.Lending.plan in
    let device = g.S.Shelf.device in
    let was = c.requires.always in
    let x = c.args.self.now in
    let y : Lent g.row.S.Denot g.row.J.Denot = record x { driver = c.submit_drawn-asked.new.driver; bytes = c.submit_drawn-asked.new.bytes } in
    let gives = asked_as plan c.args.client c.args.number c.args.drawn.now c.shaped-shaped.result x.lv x.blocks c.word_of-word.result x.driver.1 y.driver.1 (Err c.in-Err.why) was.2 was.3
    (c.shaped-shaped.ensures ∙ ap₂ (λ (b : Bool) (n : ℕ). if b then apart_draw n c.args.client c.args.drawn.now else c.args.drawn.now) was.4 was.3) c.word_of-word.ensures c.in-Err.ensures.gives in
    refused_gives {V = Lent g.row.S.Denot g.row.J.Denot} plan (λ d. state_of device d.driver) _ (λ d. image_of plan.first.device) (λ v w. refl) x y c.args.client was.0 c.args.number c.args.drawn.now c.in-Err.why c.refused.result c.refused.ensures.not_begun c.refused.ensures.goes_on gives c.in-Err.ensures.runs (
      asks_serves {V = Lent g.row.S.Denot g.row.J.Denot} plan (λ d. state_of device d.driver) (λ d. Unit {0}) (λ d. image_of plan.first.device) (λ v w. refl) x y c.args.client was.0 c.args.number c.args.drawn.now (Err c.in-Err.why) gives c.in-Err.ensures.runs
          c.is_sound.ensures c.requires.client.0 c.requires.client.1,
      c.in-Err.ensures.room,
      was.2,
      was.3,
      was.4,
      was.5,
      was.6,
      was.7,
    )
