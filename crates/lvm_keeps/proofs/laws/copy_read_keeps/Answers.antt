use Rattle.lvm_keeps.proofs.KeepsLemmas.CopyRead.{copy_read_keeps}
use Rattle.lvm_keeps.proofs.laws.copy_read_keeps.Goals as goal

pub returns : goal.returns
returns c = copy_read_keeps
