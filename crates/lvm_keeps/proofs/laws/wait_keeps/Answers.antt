use Rattle.lvm_keeps.proofs.KeepsLemmas.Wait.{wait_keeps}
use Rattle.lvm_keeps.proofs.laws.wait_keeps.Goals as goal

pub returns : goal.returns
returns c = wait_keeps
