use Rattle.std.proofs.Common.{inl, arith}
use Rattle.lvm_session.specs.State.{state_of}
use Rattle.lvm_driver.proofs.passed.Going.{path_frames}
use Rattle.lvm_ranges.proofs.LandingLemmas.{costs_at_end, costs_nothing, goes, landed_at_end, less_by_move, less_by_wait, one_move, one_wait, turns_leave}
use Rattle.lvm_ranges.proofs.landing.await_range.Goals as goal

pub loop-driver-init : goal.loop-driver-init
loop-driver-init g c = costs_nothing c.args.asked.now (state_of g.S.Shelf.device c.args.driver.now) c.args.patience.now.left c.requires.unstuck

pub loop-driver-preserved-in-Moved : goal.loop-driver-preserved-in-Moved
loop-driver-preserved-in-Moved g c =
    let device = g.S.Shelf.device in
    let some = c.if-patience-eq0.false in
    one_move c.args.asked.now (state_of device c.args.driver.now) (state_of device c.loop-driver.driver) (state_of device c.turn.new.self) c.args.patience.now.left c.loop-driver.patience.left c.loop-driver.invariant (c.is_unfinished.ensures.open c.loop-driver-test.true)
    c.is_sound.ensures (omega (arith, some)) c.in-Moved.ensures.makes c.in-Moved.ensures.tells c.in-Moved.ensures.runs

pub loop-driver-preserved : goal.loop-driver-preserved
loop-driver-preserved g c =
    let device = g.S.Shelf.device in
    let some = c.if-patience-eq0.false in
    one_wait c.args.asked.now (state_of device c.args.driver.now) (state_of device c.loop-driver.driver) (state_of device c.turn.new.self) c.args.patience.now.left c.loop-driver.patience.left c.loop-driver.invariant (c.is_unfinished.ensures.open c.loop-driver-test.true)
    c.is_sound.ensures (omega (arith, some)) ((path_frames c.loop-driver.invariant.on.on.runs).keeps.moves c.requires.unmoved) c.in-Idle.ensures.makes c.in-Idle.ensures.tells c.in-Idle.ensures.runs

pub loop-driver-smaller-in-Moved : goal.loop-driver-smaller-in-Moved
loop-driver-smaller-in-Moved g c = less_by_move (state_of g.S.Shelf.device c.loop-driver.driver) (state_of g.S.Shelf.device c.turn.new.self) c.loop-driver.patience.left c.in-Moved.ensures.tells

pub loop-driver-smaller : goal.loop-driver-smaller
loop-driver-smaller g c = let some = c.if-patience-eq0.false in less_by_wait (state_of g.S.Shelf.device c.loop-driver.driver) (state_of g.S.Shelf.device c.turn.new.self) c.loop-driver.patience.left c.in-Idle.ensures.tells (omega (arith, some))

pub returns-then-patience-eq0 : goal.returns-then-patience-eq0
returns-then-patience-eq0 g c =
    let device = g.S.Shelf.device in
    let so_far = c.loop-driver.invariant.on in
    record {
      turns = so_far.turns;
      ends = (c.is_unfinished.ensures.open c.loop-driver-test.true, c.if-patience-eq0.true);
      leaves = turns_leave (state_of device c.args.driver.now) (state_of device c.loop-driver.driver) so_far.on;
      costs = c.loop-driver.invariant.turns;
      spends = record { falls = so_far.fewer; waits = so_far.waited };
    }

pub returns-in-Dark : goal.returns-in-Dark
returns-in-Dark g c =
    let device = g.S.Shelf.device in
    let old = state_of device c.loop-driver.driver in
    let new = state_of device c.turn.new.self in
    let made = c.turn.ensures in
    let first = state_of device c.args.driver.now in
    let so_far = c.loop-driver.invariant.on in
    let unfinished = c.is_unfinished.ensures.open c.loop-driver-test.true in
    let some = c.if-patience-eq0.false in
    let ended = goes c.args.asked.now first old new c.args.patience.now.left c.loop-driver.patience.left so_far unfinished c.is_sound.ensures c.turn.result made.makes made.tells made.runs in
    record {
      turns = ended.turns;
      ends = landed_at_end c.args.asked.now first old new c.args.patience.now.left c.loop-driver.patience.left so_far unfinished c.is_sound.ensures c.turn.result made.makes made.tells c.in-Dark.is;
      leaves = turns_leave first new ended.on;
      costs = costs_at_end c.args.asked.now first old new c.args.patience.now.left c.loop-driver.patience.left c.loop-driver.invariant unfinished c.is_sound.ensures (omega (arith, some)) c.turn.result made.makes c.in-Dark.is;
      spends = record { falls = ended.fewer; waits = ended.waited };
    }

pub returns : goal.returns
returns g c =
    let device = g.S.Shelf.device in
    let so_far = c.loop-driver.invariant.on in
    record {
      turns = so_far.turns;
      ends = c.is_unfinished.ensures.landed c.loop-driver-test.false;
      leaves = turns_leave (state_of device c.args.driver.now) (state_of device c.loop-driver.driver) so_far.on;
      costs = inl c.loop-driver.invariant.turns;
      spends = record { falls = so_far.fewer; waits = so_far.waited };
    }
