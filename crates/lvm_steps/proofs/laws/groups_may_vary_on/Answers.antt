use Rattle.lvm_steps.proofs.VaryingOnLemmas.VaryingOn.{restamp_keeps, only_newest_is_found, restate_keeps, forgetting_keeps}
use Rattle.lvm_steps.proofs.laws.groups_may_vary_on.Goals as goal

pub returns : goal.returns
returns c = record { restamped = restamp_keeps; only = only_newest_is_found; restated = restate_keeps; forgotten = forgetting_keeps }
