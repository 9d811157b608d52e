use Rattle.lvm_quorum.proofs.LawsLemmas.{descriptors_valid, statuses_valid}
use Rattle.lvm_quorum.proofs.laws.shown_records_are_valid.Goals as goal

pub returns-clause-descriptors : goal.returns-clause-descriptors
returns-clause-descriptors c = descriptors_valid

pub returns-clause-statuses : goal.returns-clause-statuses
returns-clause-statuses c = statuses_valid
