use Rattle.lvm_top.proofs.LawsLemmas.Recovering.{varyons_recover}
use Rattle.lvm_top.proofs.laws.varyons_recover.Goals as goal

pub returns : goal.returns
returns c = varyons_recover
