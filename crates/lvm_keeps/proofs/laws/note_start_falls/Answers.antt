use Rattle.lvm_keeps.proofs.FallsLemmas.NoteStart.{note_start_falls}
use Rattle.lvm_keeps.proofs.laws.note_start_falls.Goals as goal

pub returns : goal.returns
returns c = note_start_falls
