use Rattle.lvm_steps.proofs.CommittingLemmas.{commit_keeps}
use Rattle.lvm_steps.proofs.VaryingOnLemmas.Following.{commit_goes_on}
use Rattle.lvm_steps.proofs.laws.descriptor_is_committed.Goals as goal

pub returns : goal.returns
returns c = record { shown = commit_keeps; moments = commit_goes_on }
