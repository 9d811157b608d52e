use Rattle.lvm_ranges.proofs.ChoosingLemmas.{turn_chooses}
use Rattle.lvm_ranges.proofs.laws.turns_choose_since.Goals as goal

pub returns : goal.returns
returns c = turn_chooses
