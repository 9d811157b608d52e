use Rattle.lvm_tie.proofs.EndsWritesLemmas.{write_end_ties as its}
use Rattle.lvm_tie.proofs.writes_laws.write_end_ties.Goals as goal

pub returns : goal.returns
returns c = its
