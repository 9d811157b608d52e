use Rattle.lvm_top.proofs.LawsLemmas.Endings.{runs_in_time}
use Rattle.lvm_top.proofs.laws.runs_end_in_time.Goals as goal

pub returns : goal.returns
returns c = runs_in_time
