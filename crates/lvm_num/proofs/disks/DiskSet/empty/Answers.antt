use Rattle.lvm_num.proofs.DisksLemmas.{has-zero}
use Rattle.lvm_num.proofs.disks.DiskSet.empty.Goals as goal

pub returns : goal.returns
returns c = has-zero
