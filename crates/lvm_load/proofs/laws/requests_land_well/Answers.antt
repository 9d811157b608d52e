use Rattle.lvm_load.proofs.LandingLemmas.{may_land_well, requests_land_well, totals_are_well}
use Rattle.lvm_load.proofs.laws.requests_land_well.Goals as goal

pub returns : goal.returns
returns c = record { land = requests_land_well; totals = totals_are_well; met = may_land_well }
