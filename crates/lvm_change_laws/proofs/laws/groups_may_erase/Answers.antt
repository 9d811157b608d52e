use Rattle.lvm_change_laws.proofs.ExamplesLemmas.{thirds_may_be_erased}
use Rattle.lvm_change_laws.proofs.laws.groups_may_erase.Goals as goal

pub returns : goal.returns
returns c = thirds_may_be_erased
