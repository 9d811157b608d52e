use Rattle.lvm_keeps_events.proofs.EndsLemmas.NoteEnd.{note_end_keeps}
use Rattle.lvm_keeps_events.proofs.ends_laws.note_end_keeps.Goals as goal

pub returns : goal.returns
returns c = note_end_keeps
