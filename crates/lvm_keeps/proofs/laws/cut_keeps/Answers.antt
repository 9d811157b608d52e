use Rattle.lvm_keeps.proofs.KeepsLemmas.Darkening.{cut_keeps}
use Rattle.lvm_keeps.proofs.laws.cut_keeps.Goals as goal

pub returns : goal.returns
returns c = cut_keeps
