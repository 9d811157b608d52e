use Rattle.lvm_quiesce.proofs.LawsLemmas.Ending.{ends_start_nothing, still_is_at_rest}
use Rattle.lvm_quiesce.proofs.laws.ends_start_nothing.Goals as goal

pub returns : goal.returns
returns c = record { nothing = ends_start_nothing; still = still_is_at_rest }
