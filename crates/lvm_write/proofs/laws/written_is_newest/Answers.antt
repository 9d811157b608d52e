use Rattle.lvm_write.proofs.ShowsLemmas.{written_newest}
use Rattle.lvm_write.proofs.laws.written_is_newest.Goals as goal

pub returns : goal.returns
returns g c = written_newest _
