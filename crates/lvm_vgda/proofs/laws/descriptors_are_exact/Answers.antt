use Rattle.lvm_vgda.proofs.DescriptorBytesLemmas.Whole.{spelled_is_read, read_is_spelled}
use Rattle.lvm_vgda.proofs.laws.descriptors_are_exact.Goals as goal

pub returns-clause-spelled : goal.returns-clause-spelled
returns-clause-spelled c = spelled_is_read

pub returns-clause-read : goal.returns-clause-read
returns-clause-read c = λ bytes d fits e. read_is_spelled bytes d fits e
