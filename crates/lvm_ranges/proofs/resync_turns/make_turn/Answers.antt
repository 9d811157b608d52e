use Rattle.std.proofs.Common.{inl, inr, refl, arith}
use Rattle.lvm_session.specs.declared.answers.Turned.TheVariants as turned
use Rattle.lvm_session.specs.State.{state_of}
use Rattle.lvm_ranges.proofs.LandingLemmas.{less_by_wait}
use Rattle.lvm_ranges.proofs.TurningLemmas.{beside_none, finds_of, runs_beside, waits_beside}
use Rattle.lvm_ranges.proofs.resync_turns.make_turn.Goals as goal

pub returns-in-Moved-clause-beside : goal.returns-in-Moved-clause-beside
returns-in-Moved-clause-beside g c =
    let device = g.S.Shelf.device in
    runs_beside (state_of device c.args.driver.now) (state_of device c.turn.new.self) c.args.patience.now.left c.is_sound.ensures turned.Moved c.in-Moved.ensures.makes c.in-Moved.ensures.runs

pub returns-in-Moved-clause-ends : goal.returns-in-Moved-clause-ends
returns-in-Moved-clause-ends g c =
    let some = c.if-patience-eq0.false in
    let less = c.in-Moved.ensures.tells.moved refl in
    (inl (omega (arith, some), refl, c.in-Moved.ensures.makes), c.in-Moved.ensures.tells.power_is, omega (arith, less))

pub returns-in-Idle-clause-ends : goal.returns-in-Idle-clause-ends
returns-in-Idle-clause-ends g c =
    let device = g.S.Shelf.device in
    let old = state_of device c.args.driver.now in
    let new = state_of device c.turn.new.self in
    let some = c.if-patience-eq0.false in
    let tells = c.in-Idle.ensures.tells in
    (inr (omega (arith, some), c.in-Idle.ensures.makes, finds_of old new c.requires.under_way tells), tells.power_is, less_by_wait old new c.args.patience.now.left tells (omega (arith, some)))

pub returns-in-Dark-clause-ends : goal.returns-in-Dark-clause-ends
returns-in-Dark-clause-ends g c =
    let some = c.if-patience-eq0.false in
    (c.in-Dark.ensures.tells.power_is, (omega (arith, some), refl, c.in-Dark.ensures.makes))

pub returns-in-Off-clause-ends : goal.returns-in-Off-clause-ends
returns-in-Off-clause-ends g c =
    let some = c.if-patience-eq0.false in
    (c.in-Off.ensures.tells.power_is, (omega (arith, some), refl, c.in-Off.ensures.makes))

pub returns-in-Idle-clause-beside : goal.returns-in-Idle-clause-beside
returns-in-Idle-clause-beside g c =
    let device = g.S.Shelf.device in
    let some = c.if-patience-eq0.false in
    waits_beside (state_of device c.args.driver.now) (state_of device c.turn.new.self) c.args.patience.now.left (omega (arith, some)) c.is_sound.ensures c.requires.under_way
    c.in-Idle.ensures.makes c.in-Idle.ensures.tells c.in-Idle.ensures.runs

pub returns-in-Dark-clause-beside : goal.returns-in-Dark-clause-beside
returns-in-Dark-clause-beside g c =
    let device = g.S.Shelf.device in
    runs_beside (state_of device c.args.driver.now) (state_of device c.turn.new.self) c.args.patience.now.left c.is_sound.ensures turned.Dark c.in-Dark.ensures.makes c.in-Dark.ensures.runs

pub returns-in-Off-clause-beside : goal.returns-in-Off-clause-beside
returns-in-Off-clause-beside g c =
    let device = g.S.Shelf.device in
    runs_beside (state_of device c.args.driver.now) (state_of device c.turn.new.self) c.args.patience.now.left c.is_sound.ensures turned.Off c.in-Off.ensures.makes c.in-Off.ensures.runs

pub returns-then-patience-eq0-clause-beside : goal.returns-then-patience-eq0-clause-beside
returns-then-patience-eq0-clause-beside g c = beside_none (state_of g.S.Shelf.device c.args.driver.now) c.args.patience.now.left
