use Rattle.lvm_session.specs.State.{state_of}
use Rattle.lvm_range_lines.proofs.TakingLemmas.Awaiting.{AwaitedSoFar}
use Rattle.lvm_range_lines.proofs.waiting.await_posts.Given as goal

abbrev pub invariant-loop-post : goal.invariant-loop-post
invariant-loop-post g l = AwaitedSoFar l.posts (state_of g.S.Shelf.device l.fn.driver) (state_of g.S.Shelf.device l.driver) l.fn.patience.left l.patience.left l.post-index
