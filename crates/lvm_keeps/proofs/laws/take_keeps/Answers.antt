use Rattle.lvm_keeps.proofs.KeepsLemmas.Take.{take_keeps}
use Rattle.lvm_keeps.proofs.laws.take_keeps.Goals as goal

pub returns : goal.returns
returns c = take_keeps
