use Rattle.lvm_map.proofs.FirstFitLemmas.OneAnswer.{map_is_one, no_place_no_map}
use Rattle.lvm_map.proofs.laws.first_fit_is_one.Goals as goal

pub returns-clause-map : goal.returns-clause-map
returns-clause-map c = λ d usable asked one other first second. map_is_one d usable asked one other first second

pub returns-clause-no_place : goal.returns-clause-no_place
returns-clause-no_place c = λ d usable asked pps none all. no_place_no_map d usable asked pps none all
