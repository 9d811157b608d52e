use Rattle.lvm_crash.proofs.CopiesLemmas.{one_block}
use Rattle.lvm_crash.proofs.ends_laws.places_of_copies.Goals as goal

pub returns : goal.returns
returns c = one_block
