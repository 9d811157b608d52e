use Rattle.lvm_keeps.proofs.FallsLemmas.CopyRead.{copy_read_falls}
use Rattle.lvm_keeps.proofs.laws.copy_read_falls.Goals as goal

pub returns : goal.returns
returns c = copy_read_falls
