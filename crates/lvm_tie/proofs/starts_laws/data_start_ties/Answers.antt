use Rattle.lvm_tie.proofs.StartsLemmas.Datas.{data_start_ties as its}
use Rattle.lvm_tie.proofs.starts_laws.data_start_ties.Goals as goal

pub returns : goal.returns
returns c = its
