use Rattle.lvm_even.proofs.MarkingLemmas.{marked_may_follow, marked_leaves_none}
use Rattle.lvm_even.proofs.laws.marks_follow.Goals as goal

pub returns : goal.returns
returns c = record { follows = marked_may_follow; none = marked_leaves_none }
