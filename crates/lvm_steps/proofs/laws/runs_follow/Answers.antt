use Rattle.lvm_steps.proofs.MomentsLemmas.Spans.{runs_follow}
use Rattle.lvm_steps.proofs.MomentsLemmas.Zeros.{blank_is_earlier}
use Rattle.lvm_steps.proofs.laws.runs_follow.Goals as goal

pub returns : goal.returns
returns c = record { next = runs_follow; blank = blank_is_earlier }
