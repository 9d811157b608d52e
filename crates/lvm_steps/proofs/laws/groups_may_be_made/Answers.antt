use Rattle.lvm_steps.proofs.MakingLemmas.NoVolumes.{notes_may_change, statuses_may_change, descriptors_may_change}
use Rattle.lvm_steps.proofs.MakingLemmas.Making.{still_may_make}
use Rattle.lvm_steps.proofs.laws.groups_may_be_made.Goals as goal

pub returns : goal.returns
returns c = record { notes = notes_may_change; statuses = statuses_may_change; descriptors = descriptors_may_change; still = still_may_make }
