use Rattle.lvm_top.proofs.LawsLemmas.Scripts.{script_finds, varyon_finds, run_may_start, run_finds}
use Rattle.lvm_top.proofs.found_laws.scripts_find_what_stands.Goals as goal

pub returns-clause-stands : goal.returns-clause-stands
returns-clause-stands c = script_finds

pub returns-clause-varyon : goal.returns-clause-varyon
returns-clause-varyon c = varyon_finds

pub returns-clause-run : goal.returns-clause-run
returns-clause-run c = run_finds

pub returns-clause-start : goal.returns-clause-start
returns-clause-start c = run_may_start
