use Rattle.lvm_tie.proofs.StartsLemmas.CopyReads.{copy_read_ties}
use Rattle.lvm_tie.proofs.StartsLemmas.CopyWrites.{copy_write_ties}
use Rattle.lvm_tie.proofs.starts_laws.copy_starts_tie.Goals as goal

pub returns : goal.returns
returns c = record { reads = copy_read_ties; writes = copy_write_ties }
