use Rattle.lvm_handover.proofs.BeginningLemmas.{made_begins, varied_on_begins}
use Rattle.lvm_handover.proofs.laws.begun_serves.Goals as goal

pub returns : goal.returns
returns c = record { varied_on = varied_on_begins; made = made_begins }
