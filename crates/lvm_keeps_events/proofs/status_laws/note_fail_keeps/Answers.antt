use Rattle.lvm_keeps_events.proofs.StatusEndsLemmas.NoteFail.{note_fail_keeps}
use Rattle.lvm_keeps_events.proofs.status_laws.note_fail_keeps.Goals as goal

pub returns : goal.returns
returns c = note_fail_keeps
