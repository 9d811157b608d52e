use Rattle.lvm_tie.proofs.NotesLemmas.NoteTies.{note_end_ties as its}
use Rattle.lvm_tie.proofs.notes_laws.note_end_ties.Goals as goal

pub returns : goal.returns
returns c = its
