use Rattle.lvm_session.specs.State.{state_of}
use Rattle.lvm_range_lines.proofs.TakingLemmas.Takings.{TakenOn}
use Rattle.lvm_range_lines.proofs.waiting.take_on.Given as goal

abbrev pub invariant-loop-post : goal.invariant-loop-post
invariant-loop-post g l = TakenOn (state_of g.S.Shelf.device l.fn.driver) (state_of g.S.Shelf.device l.driver) l.posts l.post-index l.answers
