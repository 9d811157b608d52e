use Rattle.lvm_keeps_events.proofs.StatusEndsLemmas.EndsFall.{note_end_falls}
use Rattle.lvm_keeps_events.proofs.status_laws.note_end_falls.Goals as goal

pub returns : goal.returns
returns c = note_end_falls
