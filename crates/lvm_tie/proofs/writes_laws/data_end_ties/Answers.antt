use Rattle.lvm_tie.proofs.EndsWritesLemmas.{data_end_ties as its}
use Rattle.lvm_tie.proofs.writes_laws.data_end_ties.Goals as goal

pub returns : goal.returns
returns c = its
