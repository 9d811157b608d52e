use Rattle.lvm_posts.proofs.PostsLemmas.{TakenSoFar}
use Rattle.lvm_posts.proofs.posts.take_closed.Given as goal

abbrev pub invariant-loop-piece : goal.invariant-loop-piece
invariant-loop-piece l = TakenSoFar l.fn.history l.history l.asked l.have l.total l.piece l.fault
