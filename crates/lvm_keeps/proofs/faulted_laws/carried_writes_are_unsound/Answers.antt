use Rattle.lvm_keeps.proofs.CopiesLemmas.{carried_writes_are_unsound}
use Rattle.lvm_keeps.proofs.faulted_laws.carried_writes_are_unsound.Goals as goal

pub returns : goal.returns
returns c = carried_writes_are_unsound
