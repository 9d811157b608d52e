use Rattle.lvm_keeps.proofs.KeepsLemmas.NoteStart.{note_start_keeps}
use Rattle.lvm_keeps.proofs.laws.note_start_keeps.Goals as goal

pub returns : goal.returns
returns c = note_start_keeps
