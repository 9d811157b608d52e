use Rattle.lvm_move_plan.proofs.LawsLemmas.{goes_on, none_left}
use Rattle.lvm_move_plan.proofs.laws.plans_go_on.Goals as goal

pub returns : goal.returns
returns c = record { next = goes_on; last = none_left }
