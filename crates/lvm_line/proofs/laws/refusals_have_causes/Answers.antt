use Rattle.lvm_line.proofs.CausesLemmas.Causing.{has_cause}
use Rattle.lvm_line.proofs.laws.refusals_have_causes.Goals as goal

pub returns : goal.returns
returns c log room line why old new it = has_cause log room _ why old new it.between it.does
