use Rattle.lvm_keeps_events.proofs.EndsLemmas.CopyQuit.{copy_quit_keeps}
use Rattle.lvm_keeps_events.proofs.ends_laws.copy_quit_keeps.Goals as goal

pub returns : goal.returns
returns c = copy_quit_keeps
