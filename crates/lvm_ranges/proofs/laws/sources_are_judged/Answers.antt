use Rattle.lvm_ranges.proofs.WorkedLemmas.{sources_are_judged}
use Rattle.lvm_ranges.proofs.laws.sources_are_judged.Goals as goal

pub returns : goal.returns
returns c = sources_are_judged
