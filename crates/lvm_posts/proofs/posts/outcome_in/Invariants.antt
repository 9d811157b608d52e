use Rattle.std.proofs.Common.{◌≡◌, drop}
use Rattle.lvm_session.specs.Sound.{outcome_in}
use Rattle.lvm_posts.proofs.posts.outcome_in.Given as goal

abbrev pub invariant-loop-k : goal.invariant-loop-k
invariant-loop-k l = outcome_in l.history.facts l.id ≡ outcome_in (drop l.k l.history.facts) l.id
