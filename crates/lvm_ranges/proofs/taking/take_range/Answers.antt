use Rattle.std.proofs.Common.{◌≡◌, ◌+◌, refl, sym, ◌∙◌, ap, subst, arith}
use Rattle.std.specs.Prelude.{Err, Ok}
use Rattle.std.specs.Option.{option_or}
use Rattle.lvm_session.specs.Calls.{TakeGives}
use Rattle.lvm_session.specs.State.{state_of}
use Rattle.lvm_posts.proofs.DecidingLemmas.{ends_failed, ends_well}
use Rattle.lvm_ranges.proofs.TakingLemmas.{TakingSoFar, takes_all, takes_none, takes_one}
use Rattle.lvm_ranges.proofs.taking.take_range.Goals as goal

pub loop-piece-init : goal.loop-piece-init
loop-piece-init g c = record {
  so_far = takes_none (state_of g.S.Shelf.device c.args.driver.now) c.args.asked.now c.votes-have.result.0 c.votes-have.result.1 c.requires.held c.requires.landed;
  shelf = refl;
}

pub loop-piece-preserved : goal.loop-piece-preserved
loop-piece-preserved g c =
    let device = g.S.Shelf.device in
    let range = c.args.asked.now in
    let have = c.votes-have.result.0 in
    let total = c.votes-have.result.1 in
    let first = state_of device c.args.driver.now in
    let old = state_of device c.loop-piece.driver in
    let new = state_of device c.take-taken.new.self in
    let same : range.first + c.from.result ≡ range.first + c.loop-piece.piece = omega arith in
    let gives = subst (λ id. TakeGives c.loop-piece.driver.1 c.take-taken.new.self.1 1 id c.take-taken.result) same c.take-taken.ensures.gives in
    let more = takes_one first old new range have total c.loop-piece.piece c.piece_lp.result c.loop-piece.fault c.take-taken.result c.loop-piece-test.true c.is_sound-in-loop-piece.ensures c.loop-piece.invariant.so_far
    (ap device c.take-taken.ensures.shelf) gives c.piece_lp.ensures c.take-taken.ensures.runs in
    record {
      so_far = subst (TakingSoFar first new range have total (c.loop-piece.piece + 1)) (sym (c.first_fault-fault.ensures ∙ ap (option_or c.loop-piece.fault) c.fault_taken-failed.ensures)) more;
      shelf = c.take-taken.ensures.shelf ∙ c.loop-piece.invariant.shelf;
    }

pub returns-in-None : goal.returns-in-None
returns-in-None g c =
    let device = g.S.Shelf.device in
    let last : c.loop-piece.piece ≡ c.args.asked.now.pieces = omega arith in
    let so_far = c.loop-piece.invariant.so_far in
    record {
      gives = takes_all (state_of device c.args.driver.now) (state_of device c.loop-piece.driver) c.args.asked.now c.votes-have.result.0 c.votes-have.result.1 c.loop-piece.piece c.loop-piece.fault (Ok tt) c.is_sound.ensures c.requires.held c.requires.landed c.votes-have.ensures.have c.votes-have.ensures.total last so_far
          (ends_well c.loop-piece.driver.1.history.facts c.args.asked.now c.votes-have.result.0 c.votes-have.result.1 c.loop-piece.piece c.loop-piece.fault last c.in-None.is so_far.decides);
      others = so_far.others;
      runs = so_far.runs;
    }

pub returns-in-Some : goal.returns-in-Some
returns-in-Some g c =
    let device = g.S.Shelf.device in
    let last : c.loop-piece.piece ≡ c.args.asked.now.pieces = omega arith in
    let so_far = c.loop-piece.invariant.so_far in
    record {
      gives = takes_all (state_of device c.args.driver.now) (state_of device c.loop-piece.driver) c.args.asked.now c.votes-have.result.0 c.votes-have.result.1 c.loop-piece.piece c.loop-piece.fault (Err c.in-Some.why) c.is_sound.ensures c.requires.held c.requires.landed c.votes-have.ensures.have c.votes-have.ensures.total last so_far
          (ends_failed c.loop-piece.driver.1.history.facts c.args.asked.now c.votes-have.result.0 c.votes-have.result.1 c.loop-piece.piece c.loop-piece.fault c.in-Some.why last c.in-Some.is so_far.decides);
      others = so_far.others;
      runs = so_far.runs;
    }
