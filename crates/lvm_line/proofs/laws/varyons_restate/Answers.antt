use Rattle.lvm_line.proofs.CausesLemmas.Causing.{varyon_restates, nothing_written}
use Rattle.lvm_line.proofs.laws.varyons_restate.Goals as goal

pub returns-clause-on : goal.returns-clause-on
returns-clause-on c = varyon_restates

pub returns-clause-quorum : goal.returns-clause-quorum
returns-clause-quorum c log room line have total old new it = nothing_written log room _ have total old new it.between it.does
