use Rattle.lvm_mwc.proofs.NotesLemmas.{named_stands, named_flies, ended_stands, failed_leaves}
use Rattle.lvm_mwc.proofs.laws.sectors_step_by_step.Goals as goal

pub returns-clause-named : goal.returns-clause-named
returns-clause-named c = named_stands

pub returns-clause-flight : goal.returns-clause-flight
returns-clause-flight c = named_flies

pub returns-clause-ended : goal.returns-clause-ended
returns-clause-ended c = ended_stands

pub returns-clause-failed : goal.returns-clause-failed
returns-clause-failed c = failed_leaves
