use Rattle.std.proofs.Common.{sym, ◌∙◌}
use Rattle.std.proofs.lemmas.Bool.{lt-leb}
use Rattle.lvm_session.specs.State.{state_of}
use Rattle.lvm_driver.proofs.passed.Going.{path_frames}
use Rattle.lvm_load.specs.Weaving.{NoTurn, OneTurn}
use Rattle.lvm_load.proofs.WeavingLemmas.{and_then, at_first, turn_bound}
use Rattle.lvm_load.proofs.WaitingLemmas.Waiting.{turn_waits}
use Rattle.lvm_load.proofs.workload.finish.Goals as goal

pub loop-driver-init : goal.loop-driver-init
loop-driver-init g c = (NoTurn, at_first (state_of g.S.Shelf.device c.args.driver.now) c.requires.unstuck, c.requires.patient, c.requires.waiting)

pub loop-driver-preserved : goal.loop-driver-preserved
loop-driver-preserved g c =
    let device = g.S.Shelf.device in
    let old = state_of device c.loop-driver.driver in
    let new = state_of device c.turn.new.driver in
    let few = c.if-idle-lt-PATIENCE.true in (
      OneTurn c.loop-driver.invariant.0 (sym c.is_waiting.ensures ∙ c.loop-driver-test.true) (lt-leb 1000000 c.loop-driver.idle few) c.turn.ensures.turns,
      and_then (state_of device c.args.driver.now) old new c.loop-driver.invariant.1 c.turn.ensures.runs,
      turn_bound old new c.loop-driver.clients c.turn.new.clients c.loop-driver.idle c.turn.new.idle c.turn.ensures.turns few,
      turn_waits old new c.loop-driver.clients c.turn.new.clients c.loop-driver.idle c.turn.new.idle c.loop-driver.invariant.3 c.turn.ensures.turns,
    )

pub turn-requires-clause-unmoved : goal.turn-requires-clause-unmoved
turn-requires-clause-unmoved g c = (path_frames c.loop-driver.invariant.1.runs).keeps.moves c.requires.unmoved
