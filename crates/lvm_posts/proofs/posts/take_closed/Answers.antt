use Rattle.std.proofs.Common.{◌≡◌, ◌+◌, sym, ◌∙◌, ap, subst, arith}
use Rattle.lvm_vol.specs.Log.{taken_fact, with_fact}
use Rattle.lvm_posts.proofs.DecidingLemmas.{ends_failed, none_yet}
use Rattle.lvm_posts.proofs.PostsLemmas.{TakenSoFar, takes_more, taken_first}
use Rattle.lvm_posts.proofs.posts.take_closed.Goals as goal

pub loop-piece-init : goal.loop-piece-init
loop-piece-init c = taken_first c.args.history.now c.args.asked.now c.args.have c.args.total c.requires.answered (none_yet c.args.history.now.facts c.args.asked.now c.args.have c.args.total)

pub loop-piece-preserved : goal.loop-piece-preserved
loop-piece-preserved c =
    let same : c.args.asked.now.first + c.from.result ≡ c.args.asked.now.first + c.loop-piece.piece = omega arith in
    let entered = c.taken.ensures ∙ ap (λ id. with_fact c.loop-piece.history (taken_fact c.loop-piece.history.facts id)) same in
    let more = takes_more c.args.history.now c.loop-piece.history c.taken.new.self c.args.asked.now c.args.have c.args.total c.loop-piece.piece c.loop-piece.fault c.piece_fault-failed.result
    c.requires.answered c.loop-piece-test.true c.is_ordered.ensures c.loop-piece.invariant c.piece_fault-failed.ensures entered in
    subst (TakenSoFar c.args.history.now c.taken.new.self c.args.asked.now c.args.have c.args.total (c.loop-piece.piece + 1)) (sym c.first_fault-fault.ensures) more

pub returns-in-Some-clause-ends : goal.returns-in-Some-clause-ends
returns-in-Some-clause-ends c =
    ends_failed c.loop-piece.history.facts c.args.asked.now c.args.have c.args.total c.loop-piece.piece c.loop-piece.fault c.in-Some.why (omega arith) c.in-Some.is c.loop-piece.invariant.decides
