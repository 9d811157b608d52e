use Rattle.std.proofs.Common.{true, sym, ◌∙◌, ap, subst}
use Rattle.lvm_session.specs.State.{Core}
use Rattle.lvm_session.specs.Fields.{core_of}
use Rattle.lvm_session.specs.Enabled.{admission}
use Rattle.lvm_moves.specs.Pinning.{PinGives}
use Rattle.lvm_session.specs.Sound.{IsGoing}
use Rattle.lvm_moves.specs.Choosing.{MayChoose}
use Rattle.lvm_moves.specs.Moving.{FirstGives}
use Rattle.lvm_moves.proofs.MovingLemmas.{admit_gives, land_gives, pin_gives}
use Rattle.lvm_moves.proofs.moves.move_first.Goals as goal

pub returns-then-land_first-clause-gives : goal.returns-then-land_first-clause-gives
returns-then-land_first-clause-gives g c = land_gives (g.S.Shelf.device c.args.shelf.now) (core_of c.args.session.now) (core_of c.land_first.new.session) (c.if-land_first.ensures.gives (g.S.Shelf.device c.args.shelf.now))

pub admit_first-requires-clause-may : goal.admit_first-requires-clause-may
admit_first-requires-clause-may g c = subst (λ (k : Core). MayChoose (g.S.Shelf.device c.args.shelf.now) k) (sym (c.if-land_first.ensures.gives (g.S.Shelf.device c.args.shelf.now)).1) c.requires.may

pub returns-then-admit_first-clause-gives : goal.returns-then-admit_first-clause-gives
returns-then-admit_first-clause-gives g c =
    let device = g.S.Shelf.device c.args.shelf.now in
    let landed = c.if-land_first.ensures.gives device in
    admit_gives device (core_of c.args.session.now) (core_of c.admit_first.new.session) landed.0 (subst (λ (k : Core). FirstGives admission device k (core_of c.admit_first.new.session) true) landed.1 c.if-admit_first.ensures.gives)

pub pin_first-requires-clause-going : goal.pin_first-requires-clause-going
pin_first-requires-clause-going g c =
    let landed = c.if-land_first.ensures.gives (g.S.Shelf.device c.args.shelf.now) in
    let admitted = c.if-admit_first.ensures.gives in
    subst IsGoing (sym (admitted.1 ∙ landed.1)) c.requires.may.going

pub returns-clause-gives : goal.returns-clause-gives
returns-clause-gives g c =
    let device = g.S.Shelf.device c.args.shelf.now in
    let landed = c.if-land_first.ensures.gives device in
    let admitted = c.if-admit_first.ensures.gives in
    pin_gives device (core_of c.args.session.now) (core_of c.pin_first.new.session) landed.0 (ap admission (sym landed.1) ∙ admitted.0) c.pin_first.result
    (subst (λ (k : Core). PinGives k (core_of c.pin_first.new.session) c.pin_first.result) (admitted.1 ∙ landed.1) c.pin_first.ensures.gives)
