use Rattle.lvm_program.proofs.LandingLemmas.{lines_land_well, some_line_lands_well}
use Rattle.lvm_program.proofs.laws.request_lines_land_well.Goals as goal

pub returns : goal.returns
returns c = record { lines = lines_land_well; met = some_line_lands_well }
