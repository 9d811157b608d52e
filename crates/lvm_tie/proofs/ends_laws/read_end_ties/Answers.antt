use Rattle.lvm_tie.proofs.EndsLemmas.{read_end_ties as its}
use Rattle.lvm_tie.proofs.ends_laws.read_end_ties.Goals as goal

pub returns : goal.returns
returns c = its
