use Rattle.lvm_top.proofs.FollowingLemmas.{plain_runs_follow}
use Rattle.lvm_top.proofs.LeftLemmas.{left_finds_no_more}
use Rattle.lvm_top.proofs.RunsLemmas.{next_may_begin, two_runs_uphold}
use Rattle.lvm_top.proofs.laws.runs_follow.Goals as goal

pub returns : goal.returns
returns c = record { next = next_may_begin; two = two_runs_uphold; finds = left_finds_no_more; plain = plain_runs_follow }
