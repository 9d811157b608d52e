use Rattle.lvm_crash.proofs.OwnedLemmas.{owners_have_out as its}
use Rattle.lvm_crash.proofs.ends_laws.owners_have_out.Goals as goal

pub returns : goal.returns
returns c = its
