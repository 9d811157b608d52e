use Rattle.lvm_tie.proofs.RecordsLemmas.NoteTies.{note_start_ties as its}
use Rattle.lvm_tie.proofs.records_laws.note_start_ties.Goals as goal

pub returns : goal.returns
returns c = its
