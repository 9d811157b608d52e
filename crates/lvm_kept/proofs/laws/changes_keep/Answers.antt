use Rattle.lvm_kept.proofs.ChangesLemmas.Changing.{data_keeps, notes_keep}
use Rattle.lvm_kept.proofs.ChangesLemmas.Restating.{statuses_keep}
use Rattle.lvm_kept.proofs.ChangesLemmas.Restamping.{restamping_keeps}
use Rattle.lvm_kept.proofs.laws.changes_keep.Goals as goal

pub returns : goal.returns
returns c = record { blocks = data_keeps; notes = notes_keep; statuses = statuses_keep; descriptors = restamping_keeps }
