use Rattle.lvm_move_plan.proofs.LawsLemmas.{each_moves, places_lowest}
use Rattle.lvm_move_plan.proofs.laws.each_moves.Goals as goal

pub returns : goal.returns
returns c = record { copies = each_moves; places = places_lowest }
