use Rattle.lvm_keeps.proofs.KeepsLemmas.Close.{close_keeps}
use Rattle.lvm_keeps.proofs.laws.close_keeps.Goals as goal

pub returns : goal.returns
returns c = close_keeps
