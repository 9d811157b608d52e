use Rattle.lvm_program.proofs.HeedingLemmas.{lines_order_alone, runs_heed_alone, harmless_runs_go_well, harmless_scripts_go_well}
use Rattle.lvm_program.proofs.laws.harmless_runs_go_well.Goals as goal

pub returns : goal.returns
returns c = record { scripts = harmless_scripts_go_well; runs = harmless_runs_go_well; heed = runs_heed_alone; ordered = lines_order_alone }
