use Rattle.lvm_range_lines.proofs.TakingLemmas.Takings.{TakenOff}
use Rattle.lvm_range_lines.proofs.waiting.take_off.Given as goal

abbrev pub invariant-loop-post : goal.invariant-loop-post
invariant-loop-post l = TakenOff l.fn.history l.history l.posts l.post-index l.answers
