use Rattle.lvm_top.proofs.OneGroupLemmas.{unforced_stays_alone, unforced_runs_alone, blank_finds_one}
use Rattle.lvm_top.proofs.found_laws.unforced_scripts_stay_alone.Goals as goal

pub returns : goal.returns
returns c = record { lines = unforced_stays_alone; run = unforced_runs_alone; blank = blank_finds_one }
