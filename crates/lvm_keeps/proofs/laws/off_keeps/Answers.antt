use Rattle.lvm_keeps.proofs.KeepsLemmas.Off.{off_keeps}
use Rattle.lvm_keeps.proofs.laws.off_keeps.Goals as goal

pub returns : goal.returns
returns c = off_keeps
