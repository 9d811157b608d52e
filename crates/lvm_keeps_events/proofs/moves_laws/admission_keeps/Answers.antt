use Rattle.lvm_keeps_events.proofs.KeepsLemmas.Admission.{admission_keeps}
use Rattle.lvm_keeps_events.proofs.moves_laws.admission_keeps.Goals as goal

pub returns : goal.returns
returns c = admission_keeps
