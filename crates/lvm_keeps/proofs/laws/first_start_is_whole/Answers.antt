use Rattle.lvm_keeps.proofs.KeepsLemmas.Starting.{first_start_is_whole}
use Rattle.lvm_keeps.proofs.laws.first_start_is_whole.Goals as goal

pub returns : goal.returns
returns c = first_start_is_whole
