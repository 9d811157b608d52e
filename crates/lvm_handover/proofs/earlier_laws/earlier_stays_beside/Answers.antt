use Rattle.lvm_handover.proofs.EarlierLemmas.Running.{stays_beside}
use Rattle.lvm_handover.proofs.earlier_laws.earlier_stays_beside.Goals as goal

pub returns : goal.returns
returns c = stays_beside
