use Rattle.lvm_quorum.specs.Surveyed.{surveyed}
use Rattle.lvm_quorum.specs.Groups.{epoch_on}
use Rattle.lvm_quorum.proofs.GroupsLemmas.Epochs.{IsGreatestBelow}
use Rattle.lvm_quorum.proofs.groups.greatest_epoch.Given as goal

abbrev pub invariant-loop-row : goal.invariant-loop-row
invariant-loop-row l = IsGreatestBelow (epoch_on (surveyed l.survey) l.id) l.row-index l.epoch
