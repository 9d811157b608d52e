use Rattle.lvm_tie.proofs.BeginsLemmas.Rested.{tied_rests as its}
use Rattle.lvm_tie.proofs.begins_laws.tied_rests.Goals as goal

pub returns : goal.returns
returns c = its
