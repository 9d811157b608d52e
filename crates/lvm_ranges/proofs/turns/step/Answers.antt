use Rattle.std.proofs.Common.{◌≡◌, refl, subst, arith}
use Rattle.lvm_session.specs.State.{state_of}
use Rattle.lvm_ranges.specs.Stepping.{AllMoved, MovesTurns}
use Rattle.lvm_ranges.proofs.LandingLemmas.{votes_with, with_turn}
use Rattle.lvm_ranges.proofs.SteppingLemmas.{last_step, no_step, one_step}
use Rattle.lvm_ranges.proofs.turns.step.Goals as goal

pub loop-moved-init : goal.loop-moved-init
loop-moved-init g c = no_step (state_of g.S.Shelf.device c.args.driver.now) c.requires.unstuck

pub loop-moved-preserved : goal.loop-moved-preserved
loop-moved-preserved g c =
    let device = g.S.Shelf.device in
    let made = c.in-Moved.ensures in
    one_step (state_of device c.args.driver.now) (state_of device c.loop-moved.driver) (state_of device c.turn.new.self) c.loop-moved.moved c.loop-moved.invariant c.is_sound.ensures made.makes made.tells made.runs

pub returns-in_default : goal.returns-in_default
returns-in_default g c =
    let device = g.S.Shelf.device in
    let first = state_of device c.args.driver.now in
    let old = state_of device c.loop-moved.driver in
    let new = state_of device c.turn.new.self in
    let made = c.turn.ensures in
    let on = with_turn first old new c.turn.result c.loop-moved.invariant.on c.is_sound.ensures made.makes made.tells made.runs in
    record {
      ends = last_step first old new c.loop-moved.moved c.loop-moved.invariant c.turn.result c.args.turns c.loop-moved-test.true made.makes made.tells c.in_default.not-Moved;
      table = on.table;
      runs = on.runs;
      votes = votes_with first new on;
    }

pub returns : goal.returns
returns g c =
    let device = g.S.Shelf.device in
    let so_far = c.loop-moved.invariant in
    let last : c.loop-moved.moved ≡ c.args.turns = omega arith in
    record {
      ends = AllMoved refl refl (subst (λ n. MovesTurns (state_of device c.args.driver.now) n (state_of device c.loop-moved.driver)) last so_far.moves);
      table = so_far.on.table;
      runs = so_far.on.runs;
      votes = votes_with (state_of device c.args.driver.now) (state_of device c.loop-moved.driver) so_far.on;
    }
