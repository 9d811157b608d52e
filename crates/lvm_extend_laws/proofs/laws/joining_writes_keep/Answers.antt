use Rattle.lvm_extend_laws.proofs.WritingLemmas.{joining_writes_find, joining_writes_keep}
use Rattle.lvm_extend_laws.proofs.laws.joining_writes_keep.Goals as goal

pub returns : goal.returns
returns c = record { keeps = joining_writes_keep; finds = joining_writes_find }
