use Rattle.std.proofs.lemmas.Result.{err_from_is_err_and}
use Rattle.lvm_session.specs.State.{state_of}
use Rattle.lvm_ranges.proofs.PassingLemmas.Bringing.{begins, closed_state, closes, last_turns, runs_under_way, stops, turned}
use Rattle.lvm_ranges.proofs.copies.bring_up.Goals as goal

pub loop-driver-init : goal.loop-driver-init
loop-driver-init g c = begins (state_of g.S.Shelf.device c.args.driver.now) c.args.patience.now.left c.requires.unstuck c.requires.opened

pub make_turn-requires-clause-under_way : goal.make_turn-requires-clause-under_way
make_turn-requires-clause-under_way g c = runs_under_way (state_of g.S.Shelf.device c.loop-driver.driver) c.is_sound.ensures (c.is_running.ensures.runs c.loop-driver-test.true)

pub loop-driver-preserved : goal.loop-driver-preserved
loop-driver-preserved g c =
    let device = g.S.Shelf.device in
    let ends = c.in_ok-make_turn.ensures.ends in
    turned (state_of device c.args.driver.now) (state_of device c.loop-driver.driver) (state_of device c.make_turn.new.driver) c.args.patience.now.left c.loop-driver.patience.left c.make_turn.new.patience.left c.loop-driver.invariant
    c.is_sound.ensures (c.is_running.ensures.runs c.loop-driver-test.true) ends.0 ends.1 c.make_turn.ensures.beside

pub returns-in_err-make_turn-clause-ends : goal.returns-in_err-make_turn-clause-ends
returns-in_err-make_turn-clause-ends g c =
    let device = g.S.Shelf.device in
    let ends = c.in_err-make_turn.ensures.ends in
    let f = err_from_is_err_and c.from_residual.result c.from_residual.ensures.1 in
    rw (f.1, f.2) (
      ends.0,
      last_turns (state_of device c.args.driver.now) (state_of device c.loop-driver.driver) (state_of device c.make_turn.new.driver) c.args.patience.now.left c.loop-driver.patience.left c.make_turn.new.patience.left c.loop-driver.invariant
          (c.is_running.ensures.runs c.loop-driver-test.true) c.in_err-make_turn.field-0.0 ends.1,
    )

pub returns-in_err-make_turn-clause-beside : goal.returns-in_err-make_turn-clause-beside
returns-in_err-make_turn-clause-beside g c =
    let device = g.S.Shelf.device in
    stops (state_of device c.args.driver.now) (state_of device c.loop-driver.driver) (state_of device c.make_turn.new.driver) c.args.patience.now.left c.loop-driver.patience.left c.make_turn.new.patience.left c.loop-driver.invariant
    c.make_turn.ensures.beside

pub returns-clause-beside : goal.returns-clause-beside
returns-clause-beside g c =
    let device = g.S.Shelf.device in
    (closes (state_of device c.args.driver.now) (state_of device c.loop-driver.driver) c.args.patience.now.left c.loop-driver.patience.left c.loop-driver.invariant (state_of device c.close_copy.new.self) c.copy_state-how.ensures.caused
    (closed_state device c.loop-driver.driver c.close_copy.new.self c.close_copy.ensures.shelf c.close_copy.ensures.closed) c.close_copy.ensures.runs).1
