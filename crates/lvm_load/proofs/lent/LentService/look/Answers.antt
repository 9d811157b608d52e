use Rattle.std.proofs.Common.{◌≡◌, refl, subst}
use Rattle.lvm_session.specs.declared.answers.Turned.TheVariants as turned
use Rattle.lvm_session.specs.declared.answers.Taken.TheVariants as taken
use Rattle.lvm_session.specs.Calls.{TakeGives}
use Rattle.lvm_session.specs.State.{Core, State, state, state_of}
use Rattle.lvm_session.specs.Turns.{TurnMakes}
use Rattle.lvm_keeps_events.specs.Telling.{TurnTells}
use Rattle.lvm_driver.specs.Showing.{image_of}
use Rattle.lvm_driver.specs.passed.Going.{RunsOn}
use Rattle.lvm_workers.specs.declared.service.Seen.TheVariants as seen
use Rattle.lvm_load.specs.declared.lent.Lent.{Lent}
use Rattle.lvm_load.proofs.LendingLemmas.Serving.{it_is, its_there, moved_behind, not_yet, takes, takes_looks, takes_serves, turn_looks, turn_serves}
use Rattle.lvm_load.proofs.lent.LentService.look.Goals as goal

pub returns-in-Idle : goal.returns-in-Idle
returns-in-Idle g c =
    let plan = g.J.Lending.plan in
    let device = g.S.Shelf.device in
    let was = c.requires.always in
    let x = c.args.self.now in
    let y : Lent g.row.S.Denot g.row.J.Denot = record x { driver = c.turn-answer.new.self } in
    let old : State = state_of device x.driver in
    let mid : State = state_of device c.take.new.self in
    let new : State = state_of device c.turn-answer.new.self in
    let there = its_there {V = Lent g.row.S.Denot g.row.J.Denot} plan (λ d. state_of device d.driver) (λ d. Unit {0}) (λ d. image_of plan.first.device) (λ v w. refl) x y c.args.client was.0 c.args.id c.requires.awaits in
    let none = not_yet c.args.client c.args.id x.driver.1 c.take.new.self.1 (takes old c.is_sound.ensures c.take.new.self.1 c.args.client c.args.id _ there c.in-NotYet.ensures.gives) in
    let gives : TakeGives old.core old.core c.args.client c.args.id taken.NotYet = subst (λ (k : Core). TakeGives old.core k c.args.client c.args.id taken.NotYet) none.0 c.in-NotYet.ensures.gives in
    let same : mid ≡ old = λ i. state (device (c.in-NotYet.ensures.shelf i)) (none.0 i) in
    let made = subst (λ (s : State). TurnMakes s new turned.Idle) same c.in-Idle.ensures.makes in
    let tells = subst (λ (s : State). TurnTells s new turned.Idle) same c.in-Idle.ensures.tells in
    let runs = subst (λ (s : State). RunsOn s new) same c.in-Idle.ensures.runs in
    turn_looks {V = Lent g.row.S.Denot g.row.J.Denot} plan (λ d. state_of device d.driver) _ (λ d. image_of plan.first.device) (λ v w. refl) x y c.args.client was.0 c.args.id turned.Idle seen.Idle (λ e. cc e) (λ e. refl) refl gives was.0.unmoved none.1 made tells runs (
      turn_serves {V = Lent g.row.S.Denot g.row.J.Denot} plan (λ d. state_of device d.driver) (λ d. Unit {0}) (λ d. image_of plan.first.device) (λ v w. refl) x y c.args.client was.0 c.args.id turned.Idle made runs c.is_sound-in-NotYet.ensures,
      was.1,
      was.2,
      was.3,
      was.4,
      was.5,
      was.6,
      was.7,
    )

pub returns-in_default-answer : goal.returns-in_default-answer
returns-in_default-answer g c =
    let plan = g.J.Lending.plan in
    let device = g.S.Shelf.device in
    let was = c.requires.always in
    let x = c.args.self.now in
    let y : Lent g.row.S.Denot g.row.J.Denot = record x { driver = c.turn-answer.new.self } in
    let old : State = state_of device x.driver in
    let mid : State = state_of device c.take.new.self in
    let new : State = state_of device c.turn-answer.new.self in
    let there = its_there {V = Lent g.row.S.Denot g.row.J.Denot} plan (λ d. state_of device d.driver) (λ d. Unit {0}) (λ d. image_of plan.first.device) (λ v w. refl) x y c.args.client was.0 c.args.id c.requires.awaits in
    let none = not_yet c.args.client c.args.id x.driver.1 c.take.new.self.1 (takes old c.is_sound.ensures c.take.new.self.1 c.args.client c.args.id _ there c.in-NotYet.ensures.gives) in
    let gives : TakeGives old.core old.core c.args.client c.args.id taken.NotYet = subst (λ (k : Core). TakeGives old.core k c.args.client c.args.id taken.NotYet) none.0 c.in-NotYet.ensures.gives in
    let same : mid ≡ old = λ i. state (device (c.in-NotYet.ensures.shelf i)) (none.0 i) in
    let made = subst (λ (s : State). TurnMakes s new c.turn-answer.result) same c.turn-answer.ensures.makes in
    let tells = subst (λ (s : State). TurnTells s new c.turn-answer.result) same c.turn-answer.ensures.tells in
    let runs = subst (λ (s : State). RunsOn s new) same c.turn-answer.ensures.runs in
    turn_looks {V = Lent g.row.S.Denot g.row.J.Denot} plan (λ d. state_of device d.driver) _ (λ d. image_of plan.first.device) (λ v w. refl) x y c.args.client was.0 c.args.id c.turn-answer.result seen.Moved (λ e. cc e) (λ e. absurd (cc e)) (moved_behind c.turn-answer.result c.in_default-answer.not-Idle) gives was.0.unmoved none.1 made tells runs (
      turn_serves {V = Lent g.row.S.Denot g.row.J.Denot} plan (λ d. state_of device d.driver) (λ d. Unit {0}) (λ d. image_of plan.first.device) (λ v w. refl) x y c.args.client was.0 c.args.id c.turn-answer.result made runs c.is_sound-in-NotYet.ensures,
      was.1,
      was.2,
      was.3,
      was.4,
      was.5,
      was.6,
      was.7,
    )

pub returns-in_default : goal.returns-in_default
returns-in_default g c =
    let plan = g.J.Lending.plan in
    let device = g.S.Shelf.device in
    let was = c.requires.always in
    let x = c.args.self.now in
    let y : Lent g.row.S.Denot g.row.J.Denot = record x { driver = c.take.new.self } in
    let old : State = state_of device x.driver in
    let there = its_there {V = Lent g.row.S.Denot g.row.J.Denot} plan (λ d. state_of device d.driver) (λ d. Unit {0}) (λ d. image_of plan.first.device) (λ v w. refl) x y c.args.client was.0 c.args.id c.requires.awaits in
    let it = it_is c.args.client c.args.id x.driver.1 c.take.new.self.1 c.take.result c.in_default.not-NotYet (takes old c.is_sound.ensures c.take.new.self.1 c.args.client c.args.id c.take.result there c.take.ensures.gives) in
    takes_looks {V = Lent g.row.S.Denot g.row.J.Denot} plan (λ d. state_of device d.driver) _ (λ d. image_of plan.first.device) (λ v w. refl) x y c.args.client was.0 c.args.id c.take.result c.in_default.not-NotYet c.take.ensures.gives it c.take.ensures.runs (
      takes_serves {V = Lent g.row.S.Denot g.row.J.Denot} plan (λ d. state_of device d.driver) (λ d. Unit {0}) (λ d. image_of plan.first.device) (λ v w. refl) x y c.args.client was.0 c.args.id c.take.result it c.take.ensures.runs c.is_sound-in_default.ensures,
      was.1,
      was.2,
      was.3,
      was.4,
      was.5,
      was.6,
      was.7,
    )
