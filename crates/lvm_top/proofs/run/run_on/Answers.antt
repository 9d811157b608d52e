use Rattle.lvm_session.specs.State.{state_of}
use Rattle.lvm_top.proofs.EndingLemmas.{last_turn, no_turn, one_turn, turns_run}
use Rattle.lvm_top.proofs.run.run_on.Goals as goal

pub loop-driver-init : goal.loop-driver-init
loop-driver-init g c = no_turn (state_of g.S.Shelf.device c.args.driver.now) c.requires.unstuck

pub loop-driver-preserved : goal.loop-driver-preserved
loop-driver-preserved g c =
    let device = g.S.Shelf.device in
    one_turn (state_of device c.args.driver.now) (state_of device c.loop-driver.driver) (state_of device c.turn.new.self) c.loop-driver.invariant c.in-Moved.ensures.makes c.in-Moved.ensures.tells c.in-Moved.ensures.runs

pub returns-in_default : goal.returns-in_default
returns-in_default g c =
    let device = g.S.Shelf.device in
    let first = state_of device c.args.driver.now in
    let old = state_of device c.loop-driver.driver in
    let new = state_of device c.turn.new.self in
    record {
      turns = last_turn first old new c.loop-driver.invariant c.turn.result c.turn.ensures.makes c.turn.ensures.tells c.in_default.not-Moved;
      runs = turns_run first old new c.loop-driver.invariant c.turn.ensures.runs;
      sound = c.is_sound.ensures;
    }
