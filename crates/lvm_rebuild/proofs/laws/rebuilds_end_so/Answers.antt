use Rattle.lvm_rebuild.proofs.EndsLemmas.{rebuilds_end_so}
use Rattle.lvm_rebuild.proofs.laws.rebuilds_end_so.Goals as goal

pub returns : goal.returns
returns c = rebuilds_end_so
