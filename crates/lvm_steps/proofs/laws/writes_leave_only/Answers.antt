use Rattle.lvm_steps.proofs.MakingLemmas.Making.{still_leaves_only, under_way_leaves_only, transfer_leaves_only}
use Rattle.lvm_steps.proofs.laws.writes_leave_only.Goals as goal

pub returns : goal.returns
returns c = record { still = still_leaves_only; under_way = under_way_leaves_only; transfer = transfer_leaves_only }
