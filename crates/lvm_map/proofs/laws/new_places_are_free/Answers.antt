use Rattle.lvm_map.proofs.LawsLemmas.NewPlaces.{new_place}
use Rattle.lvm_map.proofs.laws.new_places_are_free.Goals as goal

pub returns : goal.returns
returns c = λ d usable asked pps k pp valid all is new. new_place d usable asked pps k pp valid all.fits is new
