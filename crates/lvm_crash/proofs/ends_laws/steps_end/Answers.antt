use Rattle.lvm_crash.proofs.BringingLemmas.{read_leaves, read_gets, step_ends}
use Rattle.lvm_crash.proofs.ends_laws.steps_end.Goals as goal

pub returns : goal.returns
returns c = record { leaves = read_leaves; gets = read_gets; steps = step_ends }
