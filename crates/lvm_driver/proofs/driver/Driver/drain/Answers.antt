use Rattle.std.proofs.Common.{sym, subst, arith}
use Rattle.std.specs.Prelude.{Err}
use Rattle.lvm_session.specs.declared.answers.Turned.TheVariants as turned
use Rattle.lvm_session.specs.State.{state_of}
use Rattle.lvm_core.specs.declared.fault.CommitFault.{CommitFault}
use Rattle.lvm_driver.specs.Drains.{DrainCosts}
use Rattle.lvm_driver.proofs.DrainsLemmas.{begins, drained, last_turn, moved, path, runs_then, waits}
use Rattle.lvm_driver.proofs.driver.Driver.drain.Goals as goal

pub loop-patience-init : goal.loop-patience-init
loop-patience-init g c = begins (state_of g.S.Shelf.device c.args.self.now) c.args.patience.now.left c.requires.unstuck

pub loop-patience-preserved-in-Moved : goal.loop-patience-preserved-in-Moved
loop-patience-preserved-in-Moved g c =
    let device = g.S.Shelf.device in
    let test = c.loop-patience-test.true in
    moved (state_of device c.args.self.now) (state_of device c.loop-patience.self) (state_of device c.turn.new.self) c.args.patience.now.left c.loop-patience.patience.left c.loop-patience.invariant
    c.in-Moved.ensures.makes c.in-Moved.ensures.tells (omega (arith, test)) c.in-Moved.ensures.runs

pub loop-patience-preserved : goal.loop-patience-preserved
loop-patience-preserved g c =
    let device = g.S.Shelf.device in
    let out = c.flights.ensures in
    let some = c.if-flights-eq0.false in
    let test = c.loop-patience-test.true in
    waits (state_of device c.args.self.now) (state_of device c.loop-patience.self) (state_of device c.turn.new.self) c.args.patience.now.left c.loop-patience.patience.left c.loop-patience.invariant
    c.in-Idle.ensures.makes c.in-Idle.ensures.tells (λ none. grind (arith, out, some, none)) (omega (arith, test)) c.in-Idle.ensures.runs

pub returns-in-Dark-clause-turns : goal.returns-in-Dark-clause-turns
returns-in-Dark-clause-turns g c =
    let device = g.S.Shelf.device in
    path (state_of device c.args.self.now) (state_of device c.loop-patience.self) (state_of device c.turn.new.self) c.args.patience.now.left c.loop-patience.patience.left c.loop-patience.invariant
    turned.Dark c.in-Dark.ensures.makes

pub returns-in-Off-clause-turns : goal.returns-in-Off-clause-turns
returns-in-Off-clause-turns g c =
    let device = g.S.Shelf.device in
    path (state_of device c.args.self.now) (state_of device c.loop-patience.self) (state_of device c.turn.new.self) c.args.patience.now.left c.loop-patience.patience.left c.loop-patience.invariant
    turned.Off c.in-Off.ensures.makes

pub returns-in-Dark-clause-runs : goal.returns-in-Dark-clause-runs
returns-in-Dark-clause-runs g c =
    let device = g.S.Shelf.device in
    runs_then (state_of device c.args.self.now) (state_of device c.loop-patience.self) (state_of device c.turn.new.self) c.args.patience.now.left c.loop-patience.patience.left c.loop-patience.invariant c.in-Dark.ensures.runs

pub returns-in-Off-clause-runs : goal.returns-in-Off-clause-runs
returns-in-Off-clause-runs g c =
    let device = g.S.Shelf.device in
    runs_then (state_of device c.args.self.now) (state_of device c.loop-patience.self) (state_of device c.turn.new.self) c.args.patience.now.left c.loop-patience.patience.left c.loop-patience.invariant c.in-Off.ensures.runs

pub returns-then-flights-eq0-clause-runs : goal.returns-then-flights-eq0-clause-runs
returns-then-flights-eq0-clause-runs g c =
    let device = g.S.Shelf.device in
    runs_then (state_of device c.args.self.now) (state_of device c.loop-patience.self) (state_of device c.turn.new.self) c.args.patience.now.left c.loop-patience.patience.left c.loop-patience.invariant c.in-Idle.ensures.runs

pub returns-then-flights-eq0-clause-ends : goal.returns-then-flights-eq0-clause-ends
returns-then-flights-eq0-clause-ends g c =
    let device = g.S.Shelf.device in
    let out = c.flights.ensures in
    let none = c.if-flights-eq0.true in
    drained (state_of device c.args.self.now) (state_of device c.loop-patience.self) (state_of device c.turn.new.self) c.args.patience.now.left c.loop-patience.patience.left c.loop-patience.invariant
    c.in-Idle.ensures.tells (grind (arith, out, none))

pub returns-in-Dark-clause-costs : goal.returns-in-Dark-clause-costs
returns-in-Dark-clause-costs g c =
    let device = g.S.Shelf.device in
    let test = c.loop-patience-test.true in
    last_turn (state_of device c.args.self.now) (state_of device c.loop-patience.self) (state_of device c.turn.new.self) c.args.patience.now.left c.loop-patience.patience.left c.loop-patience.invariant
    (omega (arith, test)) turned.Dark c.in-Dark.ensures.makes

pub returns-in-Off-clause-costs : goal.returns-in-Off-clause-costs
returns-in-Off-clause-costs g c =
    let device = g.S.Shelf.device in
    let test = c.loop-patience-test.true in
    let first = state_of device c.args.self.now in
    let new = state_of device c.turn.new.self in
    let patience = c.args.patience.now.left in
    let left = c.loop-patience.patience.left in
    subst (λ (why : CommitFault). DrainCosts patience left first new (Err why)) (sym c.went_off.ensures)
    (last_turn first (state_of device c.loop-patience.self) new patience left c.loop-patience.invariant (omega (arith, test)) turned.Off c.in-Off.ensures.makes)

pub returns-then-flights-eq0-clause-costs : goal.returns-then-flights-eq0-clause-costs
returns-then-flights-eq0-clause-costs g c =
    let device = g.S.Shelf.device in
    let test = c.loop-patience-test.true in
    last_turn (state_of device c.args.self.now) (state_of device c.loop-patience.self) (state_of device c.turn.new.self) c.args.patience.now.left c.loop-patience.patience.left c.loop-patience.invariant
    (omega (arith, test)) turned.Idle c.in-Idle.ensures.makes

pub returns-clause-costs : goal.returns-clause-costs
returns-clause-costs g c = c.loop-patience.invariant.costs
