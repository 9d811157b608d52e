use Rattle.lvm_keeps_events.proofs.StatusEndsLemmas.EndsFall.{note_fail_falls}
use Rattle.lvm_keeps_events.proofs.status_laws.note_fail_falls.Goals as goal

pub returns : goal.returns
returns c = note_fail_falls
