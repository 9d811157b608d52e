use Rattle.lvm_load.proofs.MovingLandingLemmas.{requests_land_on_way}
use Rattle.lvm_load.proofs.laws.requests_land_while_copies_move.Goals as goal

pub returns : goal.returns
returns c = requests_land_on_way
