use Rattle.std.proofs.Common.{◌+◌, refl, ◌∙◌, ap}
use Rattle.lvm_driver.proofs.passed.Going.{runs_both, runs_none}
use Rattle.lvm_session.specs.State.{state_of}
use Rattle.lvm_ranges.proofs.PiecesLemmas.{all_asked, asks_first, asks_next, may_next}
use Rattle.lvm_ranges.proofs.ask.submit_pieces.Goals as goal

pub loop-from-init : goal.loop-from-init
loop-from-init g c =
    let first = state_of g.S.Shelf.device c.args.driver.now in
    record {
      so_far = asks_first c.args.write c.args.lv c.args.at c.args.count (c.args.at + c.from.result) c.args.driver.now.1 (ap (λ n. c.args.at + n) c.from.ensures) c.requires.on c.requires.some c.requires.may;
      shelf = refl;
      runs = runs_none first;
      room = c.requires.room;
    }

pub submit_piece-last-requires-clause-on : goal.submit_piece-last-requires-clause-on
submit_piece-last-requires-clause-on g c = c.loop-from.invariant.so_far.on

pub submit_piece-last-requires-clause-may : goal.submit_piece-last-requires-clause-may
submit_piece-last-requires-clause-may g c =
    may_next c.args.write c.args.lv c.args.at (c.args.at + c.from.result) c.args.driver.now.1 c.loop-from.driver.1 c.loop-from.from c.loop-from.last c.piece_end-to.result c.loop-from.invariant.so_far c.loop-from-test.true c.piece_end-to.ensures.is

pub submit_piece-last-requires-clause-behind : goal.submit_piece-last-requires-clause-behind
submit_piece-last-requires-clause-behind g c = c.loop-from.invariant.so_far.low

pub loop-from-preserved : goal.loop-from-preserved
loop-from-preserved g c =
    let device = g.S.Shelf.device in
    let so_far = c.loop-from.invariant in
    let took = c.submit_piece-last.ensures in
    record {
      so_far = asks_next c.args.write c.args.lv c.args.at (c.args.at + c.from.result) c.args.driver.now.1 c.loop-from.driver.1 c.submit_piece-last.new.driver.1 c.loop-from.from c.loop-from.last c.submit_piece-last.result c.piece_end-to.result
          so_far.so_far c.loop-from-test.true took.id c.piece_end-to.ensures.is took.is;
      shelf = took.shelf ∙ so_far.shelf;
      runs = runs_both (state_of device c.args.driver.now) (state_of device c.loop-from.driver) (state_of device c.submit_piece-last.new.driver) so_far.runs took.runs;
      room = took.room;
    }

pub returns : goal.returns
returns g c =
    let so_far = c.loop-from.invariant in
    let all = all_asked c.args.write c.args.lv c.args.at c.args.count (c.args.at + c.from.result) c.args.driver.now.1 c.loop-from.driver.1 c.loop-from.from c.loop-from.last (ap (λ n. c.args.at + n) c.from.ensures) so_far.so_far c.loop-from-test.false in
    record { shelf = so_far.shelf; id = all.id; submits = all.submits; on = so_far.so_far.on; runs = so_far.runs; room = so_far.room }
