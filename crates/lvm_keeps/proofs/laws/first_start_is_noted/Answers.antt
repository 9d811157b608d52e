use Rattle.lvm_keeps.proofs.KeepsLemmas.Noting.{first_start_is_noted}
use Rattle.lvm_keeps.proofs.laws.first_start_is_noted.Goals as goal

pub returns : goal.returns
returns c = first_start_is_noted
